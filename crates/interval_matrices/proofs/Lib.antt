pub mod AlternatingSigns
pub mod IntervalLines
