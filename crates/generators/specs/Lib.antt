pub mod Algebra
pub mod Functions
pub mod Polynomial
pub mod Generator
pub mod Running
pub mod Strokes
pub mod Windows
pub mod Keystream
