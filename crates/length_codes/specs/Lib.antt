pub mod LengthCodes
pub mod Rule
pub mod Calls
