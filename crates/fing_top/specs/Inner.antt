pub mod Compiled
pub mod Linked
pub mod Ending
pub mod Verdict
pub mod Page
