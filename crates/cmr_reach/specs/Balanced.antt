-- The order of the arguments of `balanced`, its reports, and the meaning of its answers.
use Rattle.std.specs.Prelude.{◌≡◌, ◌<◌, ◌≤◌, ℕ, false, List, codes, [], ◌∷◌, Option, Some, option_map}
use Rattle.cmr_base.specs.declared.limits.TheConstants.{MAX_LINES}
use Rattle.cmr_base.specs.declared.line_set.LineSet.{LineSet}
use Rattle.cmr_base.specs.Matrix.{Matrix, height, entry}
use Rattle.cmr_base.specs.CyclePlaces.{HasNoCycleFault, IsCycleFault}
use Rattle.cmr_base.specs.LineSets.{IsRowSet, IsColumnSet}
use Rattle.leaf_enumerate.specs.Searched.{shorter_side}
use Rattle.leaf_enumerate.specs.declared.search.LeastSubmatrix.{LeastSubmatrix}
use Rattle.leaf_enumerate.specs.declared.search.LeastSubmatrix.TheVariants.{Clean, Found, TooMany}
use Rattle.balance.specs.BalanceFaults.{IsBalanced, IsBalanceFault}
use Rattle.balance.specs.SearchedFaults.{HasSearchedFaults}
use Rattle.tree_type.specs.Invariant.{IsTreeFor}
use Rattle.tree_type.specs.DecompositionTrees.{Tree}
use Rattle.tree_type.specs.Verdicts as verdicts
use Rattle.tree_type.specs.Verdicts.{verdict_of}
use Rattle.decomp_tree.specs.PivotedShapes.{IsShapeWith}
use Rattle.cmr_front.specs.declared.status.Answer.{Answer}
use Rattle.cmr_front.specs.declared.status.Answer.TheVariants.{Yes, No, Undecided, Refused}
use Rattle.cmr_front.specs.MatrixText.{Source, matrix_tool, source}
use Rattle.cmr_front.specs.Report.{Report}
use Rattle.cmr_front.specs.Tool.{Tool}
use Rattle.cmr_reach.specs.FaultReports.{fault_report, open_report, yes_report}
use Rattle.clap.specs.Words.{App, Row, Text}
use Rattle.cmr_front.specs.declared.matrix_file.MatrixForm.{MatrixForm}
use Rattle.cmr_front.specs.Words.Arguments.{fault_rule, file_rule, form_rule, lines_rule, pivots_rule, tool_app, workers_rule}
use Rattle.cmr_front.specs.Words.Parsing.{fault_in, file_in, form_in, lines_in, matches_with_input, pivots_in, workers_in}
use Rattle.cmr_front.specs.Words.ReadWords.{◌>>=◌}
use Rattle.cmr_reach.specs.declared.tools.balanced.BalancedOptions.{BalancedOptions}

-- ---- the arguments

-- the options of `balanced`
pub record BalancedOrder : Type 0 where
  pub form : MatrixForm
  pub budget : ℕ
  pub pivots : ℕ
  pub workers : ℕ
  pub fault : Option (List ℕ)
  pub file : List ℕ

-- [-i FORMAT] [--lines L] [--pivots K] [-w N] [-E FILE] [FILE]
abbrev pub balanced_app : App
balanced_app = tool_app (codes "balanced") (form_rule ∷ lines_rule ∷ pivots_rule ∷ workers_rule ∷ fault_rule ∷ file_rule ∷ [])

abbrev pub balanced_order_in : List Row → Option BalancedOrder
balanced_order_in rows = do
  form ← form_in rows
  budget ← lines_in rows
  pivots ← pivots_in rows
  workers ← workers_in rows
  Some (record { form = form; budget = budget; pivots = pivots; workers = workers; fault = fault_in rows; file = file_in rows })

abbrev pub balanced_order : List Text → Option BalancedOrder
balanced_order words = matches_with_input balanced_app words >>= balanced_order_in

abbrev pub balanced_order_of : BalancedOptions → BalancedOrder
balanced_order_of options = record {
  form = options.form;
  budget = options.budget;
  pivots = options.pivots;
  workers = options.workers;
  fault = option_map (λ name. name.now) options.fault;
  file = options.file.now;
}

-- ---- the reports

abbrev pub balanced_label : List ℕ
balanced_label = codes "balanced"

-- the decomposition of the matrix within the budget and with this number of pivots has the verdict yes
pub record IsDecomposed (budget pivots : ℕ) (m : Matrix) : Type 0 where
  pub tree : Tree
  pub is_tree : IsTreeFor (height m) m.width tree
  pub shape : IsShapeWith budget pivots m tree
  pub verdict : verdict_of tree ≡ verdicts.Yes

-- these lines are a fault
pub record IsFaultOf (m : Matrix) (fault : LineSet) : Type 0 where
  pub row_set : IsRowSet m fault.rows
  pub column_set : IsColumnSet m fault.columns
  pub balance_fault : IsBalanceFault (entry m) fault.rows fault.columns

-- there is no cycle fault, and the decomposition does not decide
pub record NeedsSearch (budget pivots : ℕ) (m : Matrix) : Type 0 where
  pub no_fault : HasNoCycleFault (entry m)
  pub undecomposed : ¬ (IsDecomposed budget pivots m)

-- the result of a search: no fault, the least one, or too many lines
abbrev pub search_report : BalancedOrder → Matrix → LeastSubmatrix → Report
search_report o m Clean = yes_report balanced_label
search_report o m (Found fault) = fault_report balanced_label o.fault m fault
search_report o m (TooMany shorter) = open_report balanced_label m

-- On a matrix: a no with its cycle fault if it has one; otherwise a yes if its decomposition has the verdict yes; otherwise the
-- result of the search of its shorter side within the budget.
pub data BalancedDecides (o : BalancedOrder) (m : Matrix) (report : Report) : Type 0 where
  cycle : (fault : LineSet) → IsCycleFault m fault.rows fault.columns → IsFaultOf m fault → report ≡ fault_report balanced_label o.fault m fault → BalancedDecides o m report
  decomposed : HasNoCycleFault (entry m) → IsDecomposed o.budget o.pivots m → IsBalanced m → report ≡ yes_report balanced_label → BalancedDecides o m report
  searched : NeedsSearch o.budget o.pivots m → (found : LeastSubmatrix) → HasSearchedFaults m o.budget found → report ≡ search_report o m found → BalancedDecides o m report

-- an open matrix: only a search decides, and the shorter side has too many lines for it
pub record IsUndecided (budget pivots : ℕ) (m : Matrix) : Type 0 where
  pub needed : NeedsSearch budget pivots m
  pub above : budget < shorter_side m

abbrev pub BalancedMeans : BalancedOrder → Matrix → Answer → Type 0
BalancedMeans o m Yes = IsBalanced m
BalancedMeans o m No = (fault : LineSet) × IsFaultOf m fault
BalancedMeans o m Undecided = IsUndecided o.budget o.pivots m
BalancedMeans o m Refused = ⊥

-- the ranges of its numbers
pub record IsInRanges (o : BalancedOrder) : Type 0 where
  pub budget : o.budget ≤ MAX_LINES
  pub some : 1 ≤ o.workers
  pub workers : o.workers ≤ 64

abbrev pub balanced_source : BalancedOrder → Source
balanced_source o = source o.form false o.file

abbrev pub balanced_tool : BalancedOrder → Tool
balanced_tool o = matrix_tool (balanced_source o) (IsInRanges o) (BalancedDecides o) (BalancedMeans o)
