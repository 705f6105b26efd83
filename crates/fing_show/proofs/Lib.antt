pub mod Closed
pub mod Headed
pub mod Verdicts
pub mod Ran
