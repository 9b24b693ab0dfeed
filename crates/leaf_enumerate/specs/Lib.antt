pub mod Searched
pub mod RowSets
