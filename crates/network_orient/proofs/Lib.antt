pub mod Orientations
pub mod Merging
pub mod ForcedSigns
pub mod SignedRows
pub mod ReversedPairs
pub mod SignedSupports
pub mod FirstRows
