pub mod Sieves
pub mod Answering
pub mod OwnRules
pub mod SumRules
pub mod Children
pub mod ApartRules
pub mod CleanSets
