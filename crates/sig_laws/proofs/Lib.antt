pub mod Algebra
pub mod Encoded
pub mod Formed
pub mod LawTheorems
pub mod LiftLaws
