pub mod OneOutcome
pub mod Refinement
pub mod SigRules
pub mod SigWhy
