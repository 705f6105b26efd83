pub mod Conditions
pub mod FlipExample
pub mod OrderExample
pub mod PackageTypes
