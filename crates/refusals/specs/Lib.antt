pub mod Refusals
pub mod Outcome
pub mod Demand1
pub mod Signed
