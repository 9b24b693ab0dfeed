pub mod Runs
pub mod Matrices
pub mod MarkedLines
