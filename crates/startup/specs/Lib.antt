pub mod StartUp
pub mod Editions
pub mod Naming
pub mod Laws
pub mod Filling
