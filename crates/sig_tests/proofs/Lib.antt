pub mod ExampleSides
