pub mod SigInScope
pub mod Pieces
