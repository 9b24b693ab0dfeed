pub mod PartVerdicts
pub mod LargeVerdicts
pub mod LargeLaws
