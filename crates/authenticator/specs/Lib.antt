pub mod Authenticator
pub mod ClosedForm
pub mod Words
pub mod Cutting
