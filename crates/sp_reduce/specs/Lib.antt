pub mod Laws
pub mod LineKinds
pub mod StayingSides
pub mod Tallies
pub mod Changes
pub mod RowDigests
pub mod NeededLines
pub mod GreedyRests
