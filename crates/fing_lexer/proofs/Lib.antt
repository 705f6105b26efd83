pub mod Laws
pub mod Classes
pub mod Digits
pub mod Found
pub mod Texts
pub mod Going
pub mod Slices
