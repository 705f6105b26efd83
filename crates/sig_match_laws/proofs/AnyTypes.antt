pub mod AnyTypes
pub mod AnyTypesConv
pub mod AnyTypesSubst
pub mod Decides
pub mod SubSubst
