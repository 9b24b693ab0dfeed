pub mod TextWords
pub mod Result
pub mod Numbers
pub mod Reading
pub mod Written
pub mod Spelling
pub mod LineNumbers
pub mod Limits
