pub mod Counts
pub mod Order
pub mod Rows
