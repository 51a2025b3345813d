pub mod Long
pub mod NotKept
pub mod Ending
