pub mod CycleFaultLaws
