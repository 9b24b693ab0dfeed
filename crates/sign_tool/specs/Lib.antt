pub mod SetSignings
pub mod Laws
