pub mod Crypting
