pub mod AnyTypes
pub mod Examples
pub mod MatchClaims
pub mod MatchFunction
pub mod RootSearch
