pub mod Plain
pub mod InScope
pub mod Pieces
