-- Laws on the reports of the tools.
use Rattle.std.specs.Prelude.{◌≡◌, ℕ, List}
use Rattle.cmr_front.specs.declared.status.Failure.TheVariants.{Text}
use Rattle.cmr_front.specs.Report.{Report}
use Rattle.cmr_front.specs.Status.{failure_status}
use Rattle.cmr_front.specs.Tool.{IsFaultOfFile}
use Rattle.cmr_tools.specs.ToolOrders.{Order, tool_of}

-- for all texts, a report with the status of a text fault is the line on a file that the tool reads
abbrev pub FaultsAreOfFiles : Type 0
FaultsAreOfFiles = (order : Order) (bytes : List (List ℕ)) (report : Report) → (tool_of order).Reports bytes report → report.status ≡ failure_status Text → IsFaultOfFile (tool_of order).inputs report
