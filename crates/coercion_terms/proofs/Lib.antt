pub mod PackSteps
pub mod RowSteps
