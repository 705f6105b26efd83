pub mod Mentioned
pub mod Inner
