pub mod Slots
pub mod Places
pub mod Header
pub mod Offends
pub mod Walk
pub mod Calls
