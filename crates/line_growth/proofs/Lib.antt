pub mod LineSteps
pub mod Sums
pub mod SetSteps
pub mod Sweeps
