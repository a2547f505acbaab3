pub mod ZeroBytes
pub mod FieldCodes
pub mod Rows
