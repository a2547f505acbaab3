pub mod Cipher
pub mod Payload
pub mod Demands
