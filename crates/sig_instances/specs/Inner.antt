pub mod TermChanges
