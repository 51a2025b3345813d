pub mod Alike
pub mod SoundLayout
pub mod RequestBytes
pub mod Requests
pub mod RequestSays
pub mod FirstElement
pub mod BestPart
