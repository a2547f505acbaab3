pub mod Sizes
pub mod AuthenticatedString
pub mod Job
pub mod Payload
pub mod Laws
pub mod TwoTags
pub mod Examples
