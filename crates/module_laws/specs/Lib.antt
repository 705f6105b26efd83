pub mod PutIn
pub mod Together
