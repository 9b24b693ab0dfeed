-- What the arguments and the texts determine of a report, and what the workers change.
use Rattle.std.specs.Prelude.{◌≡◌, ◌↔◌, ◌⊎◌, ℕ, List, None, true}
use Rattle.cmr_front.specs.AlikeReports.{HasAlikeReports}
use Rattle.cmr_front.specs.Report.{File, Report}
use Rattle.cmr_front.specs.Tool.{HasOneReport, Tool}
use Rattle.cmr_classes.specs.AlikeNetworks.{HoldAlikeNetworks}
use Rattle.cmr_unimodular.specs.AlikeTrees.{HoldAlikeTrees}
use Rattle.cmr_tools.specs.ToolOrders.{Order, balanced, camion, check, compose, generate, parts, regular, series_parallel, sign, test, tool_of, tu, upgrade}

-- Two files of one name are equal, or hold two trees that differ only in their networks, or two networks that show the property of one
-- matrix.
pub data HoldAlike (f g : File) : Type 0 where
  trees : HoldAlikeTrees f g → HoldAlike f g
  networks : HoldAlikeNetworks f g → HoldAlike f g

-- two reports on the same texts can differ only in which networks realise a matrix
abbrev pub ReportsAreAlike : Type 0
ReportsAreAlike = (order : Order) → HasAlikeReports HoldAlike (tool_of order)

-- no file of a tree or a graph of the tested matrix is requested
abbrev pub WritesNoNetwork : Order → Type 0
WritesNoNetwork (tu o) = o.tree ≡ None
WritesNoNetwork (regular o) = o.tree ≡ None
WritesNoNetwork (series_parallel o) = Unit {0}
WritesNoNetwork (test p o) = (o.from_graph ≡ true) ⊎ (o.graph ≡ None)
WritesNoNetwork (generate o) = Unit {0}
WritesNoNetwork (check o) = Unit {0}
WritesNoNetwork (upgrade o) = Unit {0}
WritesNoNetwork (camion o) = Unit {0}
WritesNoNetwork (sign o) = Unit {0}
WritesNoNetwork (balanced o) = Unit {0}
WritesNoNetwork (parts o) = Unit {0}
WritesNoNetwork (compose o) = Unit {0}

-- if no such file is requested, the texts determine the whole report
abbrev pub ReportsAreOne : Type 0
ReportsAreOne = (order : Order) → WritesNoNetwork order → HasOneReport (tool_of order)

-- the same order with another number of workers
abbrev pub with_workers : ℕ → Order → Order
with_workers n (tu o) = tu (record { form = o.form; budget = o.budget; pivots = o.pivots; workers = n; tree = o.tree; fault = o.fault; file = o.file })
with_workers n (regular o) = regular (record { form = o.form; budget = o.budget; pivots = o.pivots; workers = n; tree = o.tree; fault = o.fault; signed = o.signed; chain = o.chain; file = o.file })
with_workers n (series_parallel o) = series_parallel o
with_workers n (test p o) = test p o
with_workers n (generate o) = generate (record { what = o.what; size = o.size; number = o.number; budget = o.budget; pivots = o.pivots; workers = n; output = o.output })
with_workers n (check o) = check o
with_workers n (upgrade o) = upgrade o
with_workers n (camion o) = camion o
with_workers n (sign o) = sign o
with_workers n (balanced o) = balanced (record { form = o.form; budget = o.budget; pivots = o.pivots; workers = n; fault = o.fault; file = o.file })
with_workers n (parts o) = parts o
with_workers n (compose o) = compose o

-- two tools read the same files and have the same reports
pub record AreReportedAlike (one other : Tool) : Type 0 where
  pub inputs : one.inputs ≡ other.inputs
  pub reports : (bytes : List (List ℕ)) (report : Report) → one.Reports bytes report ↔ other.Reports bytes report

abbrev pub WorkersChangeNothing : Type 0
WorkersChangeNothing = (order : Order) (n : ℕ) → AreReportedAlike (tool_of (with_workers n order)) (tool_of order)
