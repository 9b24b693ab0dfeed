pub mod SearchedSublists
pub mod SmallestMinors
pub mod SmallestViolators
pub mod ViolatorsHaveDeterminantTwo
pub mod GomoryEquivalence
pub mod MinimalViolators
pub mod LeastViolatorsAreMinimal
