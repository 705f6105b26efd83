pub mod View
pub mod Refusal
pub mod Moves
pub mod Steps
