pub mod Determined
pub mod Environments
pub mod Terms
pub mod NameOrder
