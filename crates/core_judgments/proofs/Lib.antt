pub mod DataVerdicts
pub mod Equal
pub mod ExpVerdicts
pub mod SumVerdicts
pub mod TypeVerdicts
