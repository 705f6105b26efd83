pub mod Fields
pub mod Fixings
pub mod Liftings
pub mod Moves
pub mod Operations
pub mod Positions
pub mod Sequences
pub mod KeptClaims
