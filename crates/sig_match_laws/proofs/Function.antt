pub mod FunctionSound
pub mod LookSound
pub mod PackUp
pub mod StepFacts
