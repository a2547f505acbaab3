pub mod Functions
pub mod Published
pub mod Words
pub mod Runs
