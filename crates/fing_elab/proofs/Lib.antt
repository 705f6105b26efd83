pub mod Programs
pub mod Separate
