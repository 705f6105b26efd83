pub mod Code
pub mod View
pub mod Feed
pub mod ShapeLaws
pub mod Memo
pub mod Low
pub mod Places
