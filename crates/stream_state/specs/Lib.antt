pub mod Stream
pub mod Layout
pub mod Words
pub mod Laws
