pub mod SparseRows
pub mod SparseLayout
pub mod PartTransposed
pub mod SparseLaws
pub mod LineMarks
