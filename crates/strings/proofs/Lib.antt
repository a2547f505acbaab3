pub mod OverBytes
pub mod ByteStrings
pub mod Writing
pub mod Words
