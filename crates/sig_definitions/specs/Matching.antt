pub mod LookUp
pub mod MatchRefusal
pub mod Subtyping
