pub mod Tests
pub mod Brought
pub mod Exactly
