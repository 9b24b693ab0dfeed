pub mod Counting
pub mod SplitCases
pub mod ZeroColumns
pub mod PartNumbers
pub mod Cutting
pub mod Forests
