pub mod Refusal
pub mod Refused
pub mod Rule
pub mod Steps
pub mod Task
