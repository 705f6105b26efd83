pub mod Composed
pub mod Put
