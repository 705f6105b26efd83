pub mod Contexts
pub mod Moves
pub mod Outcomes
pub mod Reducts
pub mod Stepping
