pub mod Spreads
pub mod Plans
pub mod Corners
pub mod SumCores
pub mod SumCauses
pub mod Children
