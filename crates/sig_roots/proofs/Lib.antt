pub mod RootedLaws
pub mod BarLaws
pub mod SeekLaws
pub mod MergeLaws
pub mod WalkLaws
