pub mod OneOutcome
pub mod Package
