pub mod Example
pub mod Inner
