pub mod Conditions
pub mod Forms
pub mod NormGood
pub mod RootNumbers
pub mod Shows
pub mod WellFormedLaws
pub mod WellFormedShape
