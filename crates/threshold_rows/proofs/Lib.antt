pub mod Loops
pub mod RowTests
pub mod ByteTests
pub mod FirstOffence
