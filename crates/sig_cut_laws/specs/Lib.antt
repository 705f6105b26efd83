pub mod Cut
pub mod Along
