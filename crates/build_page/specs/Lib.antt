pub mod Outcome
pub mod Promise
pub mod Page
