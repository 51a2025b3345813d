pub mod Dictionary
pub mod ByCount
pub mod BestRow
