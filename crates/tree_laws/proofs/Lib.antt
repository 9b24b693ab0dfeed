pub mod FreeSets
pub mod Leaves
pub mod Sums
pub mod NumberedParts
pub mod OneSums
pub mod Reductions
pub mod PivotedMatrices
pub mod SoundTrees
