pub mod Code
pub mod Size
pub mod Leaves
pub mod View
pub mod Falls
