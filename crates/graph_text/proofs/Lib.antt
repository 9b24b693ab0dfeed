pub mod EdgeSteps
pub mod FoundTexts
pub mod OneMatrix
pub mod OneReading
pub mod ReadAgain
pub mod SupportCells
pub mod TextLengths
pub mod WrittenEdges
