pub mod SameSets
pub mod ChosenPlaces
pub mod LateStates
