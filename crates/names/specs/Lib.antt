pub mod Name
pub mod Names
pub mod Found
pub mod Setting
