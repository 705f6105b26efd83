pub mod Arranged
pub mod Orders
pub mod Places
