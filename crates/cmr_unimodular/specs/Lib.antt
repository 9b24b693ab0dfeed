pub mod Outline
pub mod Verdict
pub mod Tu
pub mod Regular
pub mod Generate
pub mod AlikeTrees
pub mod AcceptedEvidence
