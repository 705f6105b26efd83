pub mod ModRules
pub mod ModWhy
pub mod OneOutcome
pub mod PathUse
pub mod Projection
pub mod Sequence
