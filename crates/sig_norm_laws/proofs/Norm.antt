pub mod NormAgain
pub mod NormKeeps
pub mod NormRenamed
pub mod NormUnique
pub mod Shuffles
