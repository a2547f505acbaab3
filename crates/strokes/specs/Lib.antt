pub mod Windows
pub mod Streams
pub mod Engines
