pub mod Judgments
pub mod Operators
pub mod Refusals
