pub mod NumberedParts
mod InseparableLines
mod MarkedSearch
mod ReachedLines
pub mod FollowedLines
mod RowsInOrder
pub mod FoundParts
mod WholeParts
