pub mod Item
pub mod Part
pub mod Play
