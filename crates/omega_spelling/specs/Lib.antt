pub mod Reading
pub mod Spelled
pub mod TermReading
pub mod Omega
pub mod Refusals
pub mod Refused
