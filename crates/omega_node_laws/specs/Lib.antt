pub mod SameTy
pub mod Found
pub mod NodeTypes
pub mod Held
pub mod NodeLaws
pub mod Scope
pub mod StepLaws
