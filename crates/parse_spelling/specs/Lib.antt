pub mod Claims
pub mod Tokens
pub mod Values
