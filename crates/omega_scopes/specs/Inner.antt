pub mod Scoped
pub mod Depth
