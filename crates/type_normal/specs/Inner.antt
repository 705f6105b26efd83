pub mod Least
pub mod Moved
pub mod Lifted
pub mod Heads
pub mod Placed
