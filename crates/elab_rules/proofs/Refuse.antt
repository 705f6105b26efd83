pub mod Expressions
pub mod Modules
pub mod Signatures
pub mod Sums
pub mod Types
