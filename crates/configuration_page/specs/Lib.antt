pub mod Page
pub mod Read
pub mod Configuration
