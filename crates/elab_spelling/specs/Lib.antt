pub mod Claims
pub mod Legible
pub mod Phrases
pub mod Signatures
