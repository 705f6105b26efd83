pub mod SharedType
