pub mod Common
pub mod Determined
pub mod Keep
pub mod Progress
pub mod ReductionClaims
pub mod Runs
pub mod Synthesised
pub mod Unique
