pub mod RemovedMarks
pub mod LineDivisions
pub mod LargeEvidence
pub mod EvidenceLaws
