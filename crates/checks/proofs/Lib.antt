pub mod Demand1
pub mod Rows
pub mod TagRow
