pub mod Determined
pub mod Escapes
pub mod Verdicts
