pub mod Machine
pub mod Clocks
pub mod Accumulator
pub mod Cutting
pub mod Bitwise
