pub mod CoercionRow
pub mod FunctorRow
pub mod IncludeRow
pub mod OutsideRow
pub mod PackageRow
pub mod Rows
pub mod SharingRow
pub mod SumRow
