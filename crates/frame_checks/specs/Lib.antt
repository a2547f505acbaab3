pub mod Layout
pub mod Common
pub mod Order
pub mod Rows
