pub mod Exactly
pub mod Units
