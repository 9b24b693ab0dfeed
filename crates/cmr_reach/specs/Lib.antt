pub mod FaultReports
pub mod Camion
pub mod RowSet
pub mod Sign
pub mod Balanced
pub mod Compose
pub mod Parts
pub mod WayBack
