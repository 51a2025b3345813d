pub mod Tests
pub mod PageActs
pub mod ValidPage
pub mod Changes
pub mod Exactly
pub mod FirstOffence
