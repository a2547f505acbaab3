pub mod Sizes
pub mod BlankKey
