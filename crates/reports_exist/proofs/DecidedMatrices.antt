-- `tu` leaves open only a submatrix whose shorter side exceeds the budget, and which is no network matrix and no transpose of one.
use Rattle.std.proofs.Common.{◌≡◌, ◌≤◌, ◌⊎◌, ◌∙◌, inl, inr, ℕ, false, [], ◌∷◌, length, map, min, refl, ap, sym, subst, arith}
use Rattle.std.specs.Prelude.{Result}
use Rattle.std.proofs.lemmas.List.{length-map}
use Rattle.cmr_base.specs.declared.line_set.LineSet.{LineSet}
use Rattle.cmr_base.specs.Matrix.{Matrix, IsMatrix, entry, height, transposed}
use Rattle.cmr_base.specs.Signing.{IsTotallyUnimodular}
use Rattle.cmr_base.specs.Trees.{IsConetworkMatrix, IsNetworkMatrix}
use Rattle.cmr_base.proofs.GraphicMatrices.{submatrix_is_network_matrix}
use Rattle.cmr_base.proofs.IncreasingLists.{row_set_short}
use Rattle.cmr_base.proofs.Parts.{height-transposed}
use Rattle.cmr_base.proofs.TransposedLemmas.{column_set-transposed, row_set-transposed}
use Rattle.cmr_base.proofs.TransposedParts.{transposed-submatrix}
use Rattle.cmr_base.proofs.WholeMatrices.{is_ternary}
use Rattle.ghouila.proofs.NetworkSignings.{conetwork_matrices, network_matrices}
use Rattle.text_fields.specs.Reading.{Fault}
use Rattle.matrix_text.specs.declared.error.TextKind.{TextKind}
use Rattle.tree_type.specs.DecompositionTrees.{SizedTree, tree_of}
use Rattle.tree_type.specs.Invariant.{AreLines}
use Rattle.tree_type.specs.Soundness.{part}
use Rattle.tree_type.specs.Verdicts as verdicts
use Rattle.tree_type.specs.Verdicts.{Open, Verdict}
use Rattle.decomp_tree.specs.Shapes.{IsShape}
use Rattle.open_parts.specs.TriedShapes.{IsTriedWith}
use Rattle.open_parts.proofs.TriedRoots.{no_pivots_try_nothing}
use Rattle.cmr_front.specs.declared.outcome.FaultKind.TheVariants as faults
use Rattle.cmr_front.specs.Report.{Report}
use Rattle.cmr_front.specs.Status.{answer_status}
use Rattle.cmr_front.specs.Texts.{ReportsText}
use Rattle.cmr_front.proofs.MatrixText.{read_is_matrix}
use Rattle.cmr_front.proofs.Statuses.{status_of}
use Rattle.cmr_evidence.specs.VerdictWords.{answer_of}
use Rattle.cmr_tools.specs.ToolOrders.{tu}
use Rattle.cmr_unimodular.specs.Tu.{TuOrder, tu_verdict}
use Rattle.cmr_unimodular.specs.Verdict.{Decides, IsDecomposition, IsOpenPart, IsRightVerdict, verdict_in, verdict_report}
use Rattle.reports_exist.specs.DecidedMatrices.{IsDecided, IsTuReportOn, TuAcceptsNetworks, TuDecidesWithinBudget, TuKeepsAnswers, TuRunsDecide, with_budget}
use Rattle.reports_exist.proofs.AnsweredRuns.{has_delivered}
use Rattle.reports_exist.proofs.SmallerBudgets.{open_within_less}

-- ---- a verdict that leaves nothing open

decided_by : (budget pivots : ℕ) (m : Matrix) (verdict : Verdict) → IsRightVerdict budget pivots m verdict
    → ((lines : LineSet) → ¬ (verdict ≡ Open lines)) → IsDecided m (answer_status (answer_of verdict))
decided_by budget pivots m verdicts.Yes right closed = inl (refl, right.unimodular)
decided_by budget pivots m (verdicts.No fault) right closed = inr (refl, right.not_unimodular)
decided_by budget pivots m (Open lines) right closed = absurd (closed lines refl)

-- what the report decides on the matrix
decision : (o : TuOrder) (m : Matrix) (report : Report) → IsTuReportOn o m report → Decides (tu_verdict o) m report
decision o m report is = subst (λ (read : Result Matrix (Fault TextKind)). ReportsText faults.Matrix o.file (Decides (tu_verdict o)) read report) is.is_text is.reports

status_is : (o : TuOrder) (m : Matrix) (report : Report) (decides : Decides (tu_verdict o) m report) → report.status ≡ answer_status (answer_of (verdict_in decides.tree))
status_is o m report decides = status_of report (verdict_report (tu_verdict o) m decides.tree) decides.report_is

decided_unless_open : (o : TuOrder) (m : Matrix) (report : Report) (decides : Decides (tu_verdict o) m report)
    → ((lines : LineSet) → ¬ (verdict_in decides.tree ≡ Open lines)) → IsDecided m report.status
decided_unless_open o m report decides closed =
    subst (IsDecided m) (sym (status_is o m report decides)) (decided_by o.budget o.pivots m (verdict_in decides.tree) decides.right closed)

-- no submatrix stays open
abbrev IsNowhereOpen : (budget pivots : ℕ) → Matrix → Type 0
IsNowhereOpen budget pivots m = (lines : LineSet) → IsOpenPart budget pivots m lines → ⊥

decided_if_closed : (o : TuOrder) (m : Matrix) (report : Report) → IsTuReportOn o m report → IsNowhereOpen o.budget o.pivots m → IsDecided m report.status
decided_if_closed o m report is closed =
    let decides = decision o m report is in
    decided_unless_open o m report decides (λ lines left_open. closed lines (subst (IsRightVerdict o.budget o.pivots m) left_open decides.right))

-- ---- short matrices

part_is_short : (m : Matrix) (lines : LineSet) → AreLines m lines → min (height (part m lines)) (part m lines).width ≤ min (height m) m.width
part_is_short m lines are =
    let rows : length lines.rows ≤ height m = row_set_short m lines.rows are.rows.increasing are.rows.in_range in
    let column_set = row_set-transposed m lines.columns are.columns in
    let columns : length lines.columns ≤ height (transposed m) = row_set_short (transposed m) lines.columns column_set.increasing column_set.in_range in
    let high : height (part m lines) ≡ length lines.rows = length-map lines.rows (λ row. map (entry m row) lines.columns) in
    let wide : height (transposed m) ≡ m.width = height-transposed m in
    omega arith

pub decides_within_budget : TuDecidesWithinBudget
decides_within_budget o m report is short =
    decided_if_closed o m report is (λ lines left_open. let above = left_open.left.above in let part_short = part_is_short m lines left_open.are_lines in omega arith)

pub runs_decide : TuRunsDecide
runs_decide o bytes m run is_text short =
    let told = has_delivered (tu o) (bytes ∷ []) run in
    subst (IsDecided m) (sym told.status) (decides_within_budget o m told.report (record { bytes = bytes; is_text = is_text; reports = told.reports }) short)

-- ---- network matrices

part_of_network : (m : Matrix) (lines : LineSet) → AreLines m lines → IsNetworkMatrix m → IsNetworkMatrix (part m lines)
part_of_network m lines are = submatrix_is_network_matrix m lines.rows lines.columns are.rows are.columns

part_of_conetwork : (m : Matrix) (lines : LineSet) → IsMatrix m → AreLines m lines → IsConetworkMatrix m → IsConetworkMatrix (part m lines)
part_of_conetwork m lines is are network =
    subst IsNetworkMatrix (sym (transposed-submatrix m lines.rows lines.columns (is_ternary m is)))
    (submatrix_is_network_matrix (transposed m) lines.columns lines.rows (row_set-transposed m lines.columns are.columns) (column_set-transposed m lines.rows are.rows) network)

nowhere_open : (budget pivots : ℕ) (m : Matrix) → IsMatrix m → IsNetworkMatrix m ⊎ IsConetworkMatrix m → IsNowhereOpen budget pivots m
nowhere_open budget pivots m is (inl network) lines left_open = left_open.left.no_network (part_of_network m lines left_open.are_lines network)
nowhere_open budget pivots m is (inr conetwork) lines left_open = left_open.left.no_conetwork (part_of_conetwork m lines is left_open.are_lines conetwork)

unimodular_network : (m : Matrix) → IsMatrix m → IsNetworkMatrix m ⊎ IsConetworkMatrix m → IsTotallyUnimodular m
unimodular_network m is (inl network) = (network_matrices m is network).0
unimodular_network m is (inr conetwork) = (conetwork_matrices m is conetwork).0

pub accepts_networks : TuAcceptsNetworks
accepts_networks o m report is network =
    let is_matrix : IsMatrix m = read_is_matrix o.form false is.bytes m is.is_text in
    elim (decided_if_closed o m report is (nowhere_open o.budget o.pivots m is_matrix network)) [
      | inl is_yes ↦ is_yes.0
      | inr is_no ↦ absurd (is_no.1 (unimodular_network m is_matrix network))
    ]

-- ---- a larger budget

abbrev IsOpen : Verdict → Type 0
IsOpen verdict = (lines : LineSet) × (verdict ≡ Open lines)

open_or_not : (verdict : Verdict) → IsOpen verdict ⊎ ((lines : LineSet) → ¬ (verdict ≡ Open lines))
open_or_not verdicts.Yes = inr (λ lines e. cc)
open_or_not (verdicts.No fault) = inr (λ lines e. cc)
open_or_not (Open lines) = inl (lines, refl)

same_decision : (m : Matrix) (status other : ℕ) → IsDecided m status → IsDecided m other → other ≡ status
same_decision m status other (inl one) (inl two) = two.0 ∙ sym one.0
same_decision m status other (inl one) (inr two) = absurd (two.1 one.1)
same_decision m status other (inr one) (inl two) = absurd (one.1 two.1)
same_decision m status other (inr one) (inr two) = two.0 ∙ sym one.0

-- the tree is a decomposition without pivots
shape_without_pivots : (budget pivots : ℕ) (m : Matrix) (tree : SizedTree) → pivots ≡ 0 → IsDecomposition budget pivots m tree → IsShape budget m (tree_of tree.root)
shape_without_pivots budget pivots m tree none is = (no_pivots_try_nothing budget m (tree_of tree.root)).0 (subst (λ (count : ℕ). IsTriedWith budget count m (tree_of tree.root)) none is.shape)

pub keeps_answers : TuKeepsAnswers
keeps_answers o budget m report other none more is also =
    let decides = decision o m report is in
    let decides_more = decision (with_budget budget o) m other also in
    elim (open_or_not (verdict_in decides.tree)) [
      | inl left_open ↦ inl (status_is o m report decides ∙ ap (λ (verdict : Verdict). answer_status (answer_of verdict)) left_open.1)
      | inr closed ↦
          inr (same_decision m report.status other.status (decided_unless_open o m report decides closed)
          (decided_unless_open (with_budget budget o) m other decides_more (λ lines left_open.
          let left = open_within_less o.budget budget m (tree_of decides.tree.root) (tree_of decides_more.tree.root) more
          (shape_without_pivots o.budget o.pivots m decides.tree none decides.decomposition)
          (shape_without_pivots budget o.pivots m decides_more.tree none decides_more.decomposition) (lines, left_open) in
          closed left.0 left.1)))
    ]
