pub mod Hidden
pub mod Plain
