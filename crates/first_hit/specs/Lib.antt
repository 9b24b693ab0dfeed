pub mod First
pub mod WorkerRuns
