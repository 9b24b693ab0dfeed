pub mod Faults
pub mod Versions
pub mod KindWords
pub mod TreeValues
pub mod ReadFindings
pub mod TreeReading
pub mod CanonicalTrees
pub mod Laws
