pub mod Rests
pub mod LineTurns
pub mod TriedShapes
pub mod LinesOfNodes
pub mod Laws
