pub mod Entering
pub mod Lists
