pub mod ClosedForm
pub mod Linear
pub mod Words
pub mod Cutting
pub mod Table
pub mod AtOnce
