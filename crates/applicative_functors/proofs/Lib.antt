pub mod Lifted
pub mod Loops
