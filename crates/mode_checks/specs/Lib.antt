pub mod Modes
pub mod Common
pub mod Order
pub mod Rows
