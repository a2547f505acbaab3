pub mod Modes
pub mod Rows
