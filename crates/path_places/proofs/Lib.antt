pub mod SubmatrixSteps
pub mod SideLemmas
pub mod ReachedSteps
pub mod UniquePlaces
