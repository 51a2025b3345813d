pub mod Limits
pub mod Types
pub mod Elements
pub mod SettingsList
pub mod Calls
