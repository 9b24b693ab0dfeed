pub mod GivenSigns
pub mod ChainViolators
pub mod OddSums
pub mod ChainLabels
pub mod ChainChecks
pub mod ChainSteps
pub mod ChainAgain
pub mod StepCounts
