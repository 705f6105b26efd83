pub mod Aligned
pub mod Decided
pub mod Heads
pub mod OrderExists
pub mod OrderUnique
pub mod Orders
pub mod Roots
