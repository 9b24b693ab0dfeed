pub mod AcceptedEvidence
mod Removals
mod PlacedLines
mod NumberedLines
mod SignedLines
mod TreesOfYes
mod CheckedEvidence
