pub mod Choice
pub mod Bits
pub mod Numbers
pub mod Rows
pub mod Texts
pub mod Places
pub mod Masks
pub mod Found
