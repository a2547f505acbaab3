pub mod Bit
pub mod Bytes
pub mod Exchange
pub mod Strings
pub mod Times
pub mod Turned
