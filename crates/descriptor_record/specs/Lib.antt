pub mod Read
pub mod Rewritten
