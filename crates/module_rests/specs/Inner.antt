pub mod Folded
pub mod Gathering
pub mod Rests
