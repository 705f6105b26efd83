pub mod Apart
pub mod Bindings
pub mod Composed
pub mod InOrder
pub mod Sealed
pub mod Whole
