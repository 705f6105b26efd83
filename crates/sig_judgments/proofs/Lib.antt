pub mod Paths
pub mod Refining
pub mod Verdicts
pub mod WhereVerdict
