pub mod Judgment
pub mod Inner
