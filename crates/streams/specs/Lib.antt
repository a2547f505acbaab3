pub mod Going
pub mod Calls
pub mod Demand1
pub mod Signed
pub mod History
pub mod Cutting
pub mod WholeCutting
