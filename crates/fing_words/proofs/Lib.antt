pub mod NoFault
pub mod OneLine
pub mod Rows
