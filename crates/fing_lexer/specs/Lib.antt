pub mod Lexeme
pub mod Nest
pub mod Tokens
pub mod Inner
