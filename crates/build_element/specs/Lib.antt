pub mod Wishes
pub mod Parts
