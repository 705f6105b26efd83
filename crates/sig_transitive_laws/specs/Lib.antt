pub mod Transitive
pub mod OneNorm
