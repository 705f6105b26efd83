pub mod Tokens
pub mod Spelling
pub mod Denotes
pub mod Inner
