pub mod Heads
pub mod Judged
pub mod Ran
