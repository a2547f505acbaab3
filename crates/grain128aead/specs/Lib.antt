pub mod Sizes
pub mod Calls
pub mod Demand1
pub mod Demand2
pub mod LargestJob
pub mod Demand3
pub mod Substitution
pub mod FirstEdition
