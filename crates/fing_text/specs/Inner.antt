pub mod Memory
pub mod Standard
