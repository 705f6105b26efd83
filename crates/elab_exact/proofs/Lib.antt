pub mod Answered
pub mod GoodMatches
pub mod GoodRefusals
pub mod Places
pub mod Rules
pub mod Theorems
