pub mod SigText
pub mod Inner
