pub mod Parts
pub mod Sealing
pub mod Opening
pub mod Entry
