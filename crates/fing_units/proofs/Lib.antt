pub mod Entering
pub mod Linked
pub mod SameSigs
