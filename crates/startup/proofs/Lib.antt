pub mod Order
pub mod Ordered
pub mod Naming
pub mod Loaded
pub mod Sizes
pub mod Clocks
pub mod Filled
pub mod Initialised
