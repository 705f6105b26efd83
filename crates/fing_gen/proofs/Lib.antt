pub mod Lines
pub mod Length
