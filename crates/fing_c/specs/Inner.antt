pub mod Drafted
pub mod Returns
