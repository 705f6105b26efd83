pub mod SharedTypes
