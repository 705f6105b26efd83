pub mod InstanceLaws
pub mod InstanceSteps
