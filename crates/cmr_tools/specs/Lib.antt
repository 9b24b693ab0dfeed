pub mod ToolOrders
pub mod Laws
pub mod ReportLaws
