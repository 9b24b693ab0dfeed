pub mod Laws
pub mod SignedGroups
pub mod FirstRows
pub mod SignsBetween
pub mod Orientations
