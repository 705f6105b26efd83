pub mod NormedLaws
pub mod PackSteps
pub mod Steps
pub mod SweepLaws
pub mod Taken
pub mod TurnLaws
