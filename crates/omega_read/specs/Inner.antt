pub mod Gives
pub mod Onto
pub mod Chars
pub mod Scan
