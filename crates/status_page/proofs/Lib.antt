pub mod Loops
pub mod Refusals
