pub mod BlankKey
