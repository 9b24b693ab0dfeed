pub mod Colons
pub mod Laws
pub mod Netstrings
