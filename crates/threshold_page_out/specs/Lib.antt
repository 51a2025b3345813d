pub mod Taken
pub mod Tests
pub mod Exactly
