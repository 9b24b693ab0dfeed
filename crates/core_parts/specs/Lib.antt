pub mod CoreParts
pub mod SetsOfParts
pub mod PartRuns
pub mod DenseRuns
pub mod CorePartLaws
