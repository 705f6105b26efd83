pub mod ScopeTests
