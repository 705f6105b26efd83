pub mod Agree
pub mod Unique
pub mod Views
