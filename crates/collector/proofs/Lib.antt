pub mod Counts
pub mod Held
pub mod Putting
