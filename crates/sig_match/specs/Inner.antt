pub mod Refusals
pub mod Put
pub mod Coerced
pub mod Looking
pub mod Outcomes
pub mod Exact
pub mod Made
pub mod Alike
