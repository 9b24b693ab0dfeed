pub mod LargeTexts
pub mod LargeTextLaws
pub mod MatrixEntries
pub mod NamedPositions
pub mod WrittenEntries
