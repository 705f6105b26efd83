pub mod Claims
pub mod Derived
pub mod Units
pub mod Inner
