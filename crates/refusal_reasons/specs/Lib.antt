pub mod Refusal
pub mod Good
