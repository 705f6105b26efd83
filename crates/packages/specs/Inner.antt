pub mod First
pub mod Normed
pub mod Plain
pub mod Swept
pub mod Turns
