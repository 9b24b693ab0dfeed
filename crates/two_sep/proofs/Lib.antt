pub mod LineNumbers
pub mod FirstTwo
pub mod SeedSteps
pub mod PartSteps
pub mod ApartSets
pub mod Crossing
pub mod LinkedSteps
