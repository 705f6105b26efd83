pub mod OneOutcome
pub mod PureFunctor
