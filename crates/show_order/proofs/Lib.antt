mod PlaceLaws
pub mod ShownLaws
