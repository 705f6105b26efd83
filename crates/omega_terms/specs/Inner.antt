pub mod Walk
pub mod Size
pub mod ValueTest
pub mod Code
pub mod View
pub mod Falls
pub mod Bound
