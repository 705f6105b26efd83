pub mod Scans
pub mod Again
pub mod Items
pub mod Texts
