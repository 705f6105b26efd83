pub mod Alike
pub mod Encoding
pub mod FieldOrder
pub mod RecordOrder
pub mod Sig
pub mod SigMentions
pub mod SigSize
pub mod SigSubst
