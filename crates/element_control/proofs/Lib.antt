pub mod Acting
pub mod FirstRefused
