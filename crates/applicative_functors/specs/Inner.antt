pub mod LiftedVars
pub mod Lifted
