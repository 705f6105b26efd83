pub mod PartSteps
pub mod RowSteps
