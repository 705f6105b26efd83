pub mod AnyTypes
pub mod ExampleProofs
pub mod Function
pub mod LookUp
pub mod OneMatch
pub mod Theorems
