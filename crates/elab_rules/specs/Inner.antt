pub mod Answered
pub mod Fields
pub mod Leaving
pub mod Modules
pub mod Places
