pub mod Derivings
pub mod Entered
