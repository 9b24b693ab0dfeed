pub mod Generated
pub mod Signs
