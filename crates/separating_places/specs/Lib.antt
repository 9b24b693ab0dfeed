pub mod SeparatingPlaces
pub mod Laws
