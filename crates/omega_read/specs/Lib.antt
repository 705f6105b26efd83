pub mod ReadAs
pub mod Inner
