pub mod Bits
pub mod Elimination
pub mod Residues
pub mod Systems
pub mod WordLemmas
pub mod BasisLemmas
pub mod PlaneLemmas
pub mod ColumnSums
pub mod ColumnSetSearch
mod ReducedWords
