pub mod Unimodular
pub mod VerdictWords
pub mod Check
pub mod Upgrade
