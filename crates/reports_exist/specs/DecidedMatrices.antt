-- The matrices that `tu` has to decide.
use Rattle.std.specs.Prelude.{◌≡◌, ◌≤◌, ◌⊎◌, ℕ, false, min, List, [], ◌∷◌, Ok}
use Rattle.cmr_base.specs.Matrix.{Matrix, height}
use Rattle.cmr_base.specs.Signing.{IsTotallyUnimodular}
use Rattle.cmr_base.specs.Trees.{IsConetworkMatrix, IsNetworkMatrix}
use Rattle.cmr_front.specs.declared.status.Answer.TheVariants.{No, Undecided, Yes}
use Rattle.cmr_front.specs.MatrixText.{matrix_in}
use Rattle.cmr_front.specs.Report.{Report}
use Rattle.cmr_front.specs.Status.{answer_status}
use Rattle.cmr_tools.specs.ToolOrders.{tu}
use Rattle.cmr_unimodular.specs.Tu.{TuOrder, tu_tool}
use Rattle.reports_exist.specs.AnsweredRuns.{AnsweredRun}

-- a report of `tu` on the text of this matrix
pub record IsTuReportOn (o : TuOrder) (m : Matrix) (report : Report) : Type 0 where
  pub bytes : List ℕ
  pub is_text : matrix_in o.form false bytes ≡ Ok m
  pub reports : (tu_tool o).Reports (bytes ∷ []) report

-- the status 0 for a totally unimodular matrix, and the status 1 for every other one
abbrev pub IsDecided : Matrix → ℕ → Type 0
IsDecided m status = ((status ≡ answer_status Yes) × IsTotallyUnimodular m) ⊎ ((status ≡ answer_status No) × ¬ (IsTotallyUnimodular m))

-- Each matrix whose shorter side is within the budget of lines is decided.
abbrev pub TuDecidesWithinBudget : Type 0
TuDecidesWithinBudget = (o : TuOrder) (m : Matrix) (report : Report) → IsTuReportOn o m report → min (height m) m.width ≤ o.budget → IsDecided m report.status

-- A run that has read the text of such a matrix and answers decides it.
abbrev pub TuRunsDecide : Type 0
TuRunsDecide = (o : TuOrder) (bytes : List ℕ) (m : Matrix) (run : AnsweredRun (tu o) (bytes ∷ [])) → matrix_in o.form false bytes ≡ Ok m → min (height m) m.width ≤ o.budget → IsDecided m run.status

-- The answer on network matrices and their transposes is yes, for every budget.
abbrev pub TuAcceptsNetworks : Type 0
TuAcceptsNetworks = (o : TuOrder) (m : Matrix) (report : Report) → IsTuReportOn o m report → IsNetworkMatrix m ⊎ IsConetworkMatrix m → report.status ≡ answer_status Yes

-- the same order with another budget of lines
abbrev pub with_budget : ℕ → TuOrder → TuOrder
with_budget budget o = record { form = o.form; budget = budget; pivots = o.pivots; workers = o.workers; tree = o.tree; fault = o.fault; file = o.file }

-- Without pivots a larger budget loses no answer.
abbrev pub TuKeepsAnswers : Type 0
TuKeepsAnswers = (o : TuOrder) (budget : ℕ) (m : Matrix) (report other : Report) → o.pivots ≡ 0 → o.budget ≤ budget → IsTuReportOn o m report → IsTuReportOn (with_budget budget o) m other
    → (report.status ≡ answer_status Undecided) ⊎ (other.status ≡ report.status)
