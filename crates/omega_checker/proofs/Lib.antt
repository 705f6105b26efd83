pub mod NormalAlready
pub mod Calls
pub mod PutSteps
pub mod PackSteps
