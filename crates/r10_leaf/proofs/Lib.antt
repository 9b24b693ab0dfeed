pub mod Signings
pub mod ChosenSums
pub mod TableOrders
pub mod FreeR10
