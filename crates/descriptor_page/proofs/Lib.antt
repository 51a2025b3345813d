pub mod DescriptorRows
pub mod PagePlaced
pub mod DescriptorsBack
pub mod SamePages
