pub mod PackageTypes
