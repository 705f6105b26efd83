pub mod Env
pub mod Explicit
pub mod Lifting
pub mod Matching
pub mod Packing
pub mod QuantifierOrder
pub mod Signatures
pub mod Verdict
