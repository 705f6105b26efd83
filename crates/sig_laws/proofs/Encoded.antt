pub mod CoercionTyping
pub mod EncLaws
pub mod EncodingLaws
pub mod EncodingTyping
pub mod EnvTyping
pub mod LiftTyping
