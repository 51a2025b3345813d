pub mod EntryRows
pub mod WholeRecord
