pub mod SigScopes
