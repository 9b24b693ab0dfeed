pub mod SignSteps
pub mod Chains
pub mod ChainStates
pub mod ChainKinds
pub mod ChainTexts
pub mod Laws
