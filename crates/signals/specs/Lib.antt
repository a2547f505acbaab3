pub mod Raw
pub mod Values
pub mod Calls
pub mod Writing
pub mod Judged
pub mod Decodes
