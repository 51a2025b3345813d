pub mod DescriptorPlaces
pub mod FirstOffence
pub mod Refusals
pub mod RewrittenTests
pub mod WrittenAndRead
pub mod ReadAndRewritten
pub mod AlikeUpTo
