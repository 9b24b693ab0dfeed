pub mod Laws
pub mod PathPlaces
pub mod ReachedColumns
pub mod SideMasks
pub mod SubmatrixFields
pub mod Submatrices
