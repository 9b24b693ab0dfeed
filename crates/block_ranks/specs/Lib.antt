pub mod BlockRanks
pub mod PlacesBeforeCuts
pub mod Links
pub mod Laws
