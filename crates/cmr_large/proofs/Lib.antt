mod RunSums
mod ShownLines
pub mod LargeAnswers
mod OneLargeReport
mod UndecidedParts
mod LargeRanges
mod LargeRuns
