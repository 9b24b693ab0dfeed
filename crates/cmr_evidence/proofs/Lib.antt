pub mod Unimodular
pub mod VerdictWords
pub mod CheckAnswers
pub mod OneCheck
pub mod EvidenceKinds
pub mod UpgradeAnswers
