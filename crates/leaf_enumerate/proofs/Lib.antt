pub mod RowSets
mod LeastViolators
