pub mod Field
pub mod Calls
pub mod Demand2
pub mod Demand3
pub mod Damage
pub mod Promises
