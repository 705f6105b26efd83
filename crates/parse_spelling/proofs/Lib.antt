pub mod Simplified
pub mod Theorems
pub mod Tokens
pub mod Trees
