pub mod PlaceSteps
pub mod RankBlocks
pub mod TurnedSides
pub mod KeptCuts
pub mod RankSeparations
pub mod LinkedCuts
pub mod LineLabels
