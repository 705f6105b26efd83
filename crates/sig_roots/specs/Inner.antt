pub mod Rooted
pub mod Seek
pub mod Roots
