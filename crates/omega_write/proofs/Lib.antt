pub mod Sizes
pub mod Loops
pub mod CountedTexts
