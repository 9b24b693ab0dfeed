mod Across
mod ThinParts
mod PartMeaning
pub mod LargeMeaning
mod PartsSoFar
