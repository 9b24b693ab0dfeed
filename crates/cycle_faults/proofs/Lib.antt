pub mod PartsOfCycles
pub mod CycleFaultLaws
