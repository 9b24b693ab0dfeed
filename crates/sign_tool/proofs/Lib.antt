pub mod StepRows
pub mod OneRun
pub mod OneAnswer
