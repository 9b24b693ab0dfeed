pub mod FirstSeeds
pub mod FoundParts
pub mod LinkedLines
