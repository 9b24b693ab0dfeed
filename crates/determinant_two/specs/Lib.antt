pub mod DeterminantTwo
pub mod MinimalViolators
pub mod Laws
