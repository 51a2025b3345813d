pub mod Refusals
pub mod Loops
pub mod WrittenAndRead
pub mod FirstOffence
