pub mod ChosenLines
pub mod DrawnPlaces
pub mod PartLaws
pub mod Pivoted
pub mod PivotedParts
pub mod PivotedRows
