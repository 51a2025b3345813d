pub mod AcceptedTests
pub mod Left
pub mod Stages
pub mod Searches
