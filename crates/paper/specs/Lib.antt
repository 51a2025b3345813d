pub mod Table
pub mod Errors
