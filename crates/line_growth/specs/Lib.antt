pub mod Rules
pub mod GrowingLines
pub mod GrowingSets
