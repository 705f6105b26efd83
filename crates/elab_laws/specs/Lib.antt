pub mod Formed
pub mod Typed
