pub mod Walk
pub mod Bound
pub mod Size
pub mod Code
pub mod View
pub mod Falls
pub mod Scope
