pub mod PartNumbering
pub mod ConnectedParts
pub mod PartSearches
pub mod NumberLaws
