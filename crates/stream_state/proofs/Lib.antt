pub mod Places
pub mod Spelled
pub mod Inverse
pub mod Few
