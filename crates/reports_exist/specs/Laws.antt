-- Each order has a report. A report is not made here: the laws say that nothing is without one.
use Rattle.std.specs.Prelude.{◌≡◌, ℕ, List, Some, length}
use Rattle.std.specs.List.{AllByRecursion}
use Rattle.cmr_front.specs.Inputs.{InputFile}
use Rattle.cmr_front.specs.Report.{Held, Report}
use Rattle.cmr_front.specs.Run.{Ordered, Reports, nothing, work}
use Rattle.cmr_tools.specs.ToolOrders.{Order, order, ordered, tool_of}

-- No order whose numbers are in their ranges is without a report on some texts, one for each of its files.
abbrev pub OrdersHaveReports : Type 0
OrdersHaveReports = (order : Order) (bytes : List (List ℕ)) → (tool_of order).InRanges → length bytes ≡ length (tool_of order).inputs → ¬ ((report : Report) → ¬ ((tool_of order).Reports bytes report))

-- the names of these files exist
abbrev pub AllExist : Held → List InputFile → Type 0
AllExist held files = AllByRecursion (λ file. (content : List ℕ) × (held file.name ≡ Some content)) files

-- the files of an order exist; there are none if the arguments are refused
abbrev pub FilesExist : Ordered → Held → Type 0
FilesExist nothing held = Unit {0}
FilesExist (work tool) held = AllExist held tool.inputs

-- No arguments are without a report on the contents of the names, if the files of their order exist.
abbrev pub RunsHaveReports : Type 0
RunsHaveReports = (words : List (List ℕ)) (held : Held) → FilesExist (ordered (order words)) held → ¬ ((report : Report) → ¬ (Reports (ordered (order words)) held report))
