pub mod CoreWhy
pub mod DataRules
pub mod ExpRules
pub mod OneOutcome
pub mod TypeRules
