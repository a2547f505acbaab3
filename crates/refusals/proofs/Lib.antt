pub mod Demand1
pub mod Rows
pub mod LastRow
pub mod Returned
