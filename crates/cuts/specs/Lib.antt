pub mod LineCuts
pub mod Covers
pub mod Classes
pub mod Patterns
pub mod CutSides
pub mod CutSearches
pub mod Finders
