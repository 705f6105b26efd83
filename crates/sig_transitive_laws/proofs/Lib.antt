pub mod Below
pub mod Claims
pub mod Normed
