pub mod FoundKinds
pub mod Good
pub mod LookUpLaws
pub mod OneRefusal
pub mod Refused
pub mod Roots
