pub mod IsNormal
