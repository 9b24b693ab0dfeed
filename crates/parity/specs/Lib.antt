pub mod Equations
pub mod PlaneSums
pub mod SumsView
pub mod BasisView
pub mod GivenColumns
