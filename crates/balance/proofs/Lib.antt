pub mod NonzeroCounts
pub mod FaultLaws
pub mod FaultSets
pub mod FilterSums
pub mod ColumnPairs
pub mod AddedLines
pub mod MinimalFaults
pub mod AlikeColumns
pub mod KeptColumns
pub mod KeptSteps
pub mod FaultNumbers
mod LeastFaults
