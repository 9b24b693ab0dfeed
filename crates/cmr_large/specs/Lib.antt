pub mod LargeInputs
pub mod LargeReports
pub mod LargeTu
pub mod LargeReportLaws
