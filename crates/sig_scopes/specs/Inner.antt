pub mod SigScoped
pub mod SigDepth
pub mod ReasonScoped
