pub mod RootPath
pub mod SigPath
pub mod WellFormed
