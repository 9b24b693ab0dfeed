pub mod GraphKinds
pub mod GraphTexts
pub mod Laws
pub mod GraphReading
pub mod SupportMatrix
