pub mod Ends
pub mod Examples
pub mod OneLink
pub mod Places
pub mod Scopes
pub mod Sequences
pub mod Steps
pub mod Walks
