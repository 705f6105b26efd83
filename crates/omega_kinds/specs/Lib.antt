pub mod Kind
pub mod Name
pub mod LabelOrder
pub mod View
pub mod Text
pub mod Inner
