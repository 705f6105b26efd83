pub mod Reduction
pub mod Synthesis
