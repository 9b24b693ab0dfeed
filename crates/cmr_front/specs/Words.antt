-- Arguments of the command line, as the tools read them.
pub mod Arguments
pub mod ReadWords
pub mod Parsing
