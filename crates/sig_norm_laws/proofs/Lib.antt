pub mod Norm
pub mod Orders
pub mod NormClaims
