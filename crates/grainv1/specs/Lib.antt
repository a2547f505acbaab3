pub mod Sizes
pub mod Functions
pub mod Published
pub mod Words
pub mod StartUp
pub mod Rows
pub mod Calls
pub mod Laws
