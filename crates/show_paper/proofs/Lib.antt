pub mod LevelLaws
mod ShownBelow
