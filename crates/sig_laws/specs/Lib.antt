pub mod CoercionTypes
pub mod Decide
pub mod EncodingLaws
pub mod Good
pub mod LiftingLaws
pub mod NormalSig
pub mod SigLaws
