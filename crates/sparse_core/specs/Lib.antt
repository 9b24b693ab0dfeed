pub mod Nonzeros
pub mod TwoCores
pub mod CoreLaws
