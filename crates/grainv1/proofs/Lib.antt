pub mod Published
pub mod Words
pub mod Strokes
pub mod StartUp
pub mod Outputs
pub mod Rows
pub mod Calls
pub mod Laws
