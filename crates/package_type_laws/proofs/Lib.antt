pub mod Renumbered
pub mod Matching
pub mod Claims
