pub mod Samples
pub mod RandomTrees
pub mod JoinedRows
pub mod SumRows
