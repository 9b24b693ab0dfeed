pub mod Answers
pub mod SideLines
pub mod NodeLines
