pub mod Refusals
pub mod ReadAndRewritten
pub mod WrittenAndRead
