mod PartLines
pub mod MarkedRuns
mod SetsOfParts
mod PartMatrices
mod DenseValues
mod CoreSets
pub mod CoreLines
pub mod OneListOfParts
