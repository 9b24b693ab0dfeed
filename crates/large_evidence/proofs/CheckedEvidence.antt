-- Evidence that passes all checks is accepted.
use Rattle.std.proofs.Common.{◌≡◌, ℕ, ℤ, Bool, true, List, Option, Some, length, replicate, subst, sym}
use Rattle.std.specs.Prelude.{MatchOption}
use Rattle.std.proofs.Math.Path.{fun_ext}
use Rattle.std.specs.List.{AllByRecursion}
use Rattle.cmr_base.specs.declared.line.Step.{Step}
use Rattle.cmr_base.specs.Matrix.{entry}
use Rattle.sparse_matrix.specs.SparseRows.{AreSparseRows, SparseRows, matrix_of_runs, sparse_entry}
use Rattle.sparse_matrix.proofs.Matrices.{matrix_entry, matrix_is_ternary}
use Rattle.core_parts.proofs.MarkedRuns.{height_of_runs}
use Rattle.tree_laws.specs.Laws.{IsProved}
use Rattle.large_evidence.specs.declared.evidence.UnimodularityEvidence.{UnimodularityEvidence}
use Rattle.large_evidence.specs.declared.lines_left.LinesLeft.{LinesLeft}
use Rattle.large_evidence.specs.LargeEvidence.{HasReasonIn, IsAccepted}
use Rattle.large_evidence.specs.LineDivisions.{AreDividedParts, sets_of}
use Rattle.large_evidence.specs.RemovedMarks.{AreRemovals}
use Rattle.large_evidence.proofs.AcceptedEvidence.{accepted_is_proved}

pub removals_if_found : (M : ℕ → ℕ → ℤ) (rows columns : List Bool) (given steps : List Step) (found : Option LinesLeft) (left : LinesLeft) → given ≡ steps → found ≡ Some left
    → MatchOption found ((r c : List Bool) → AreRemovals M rows columns given r c → ⊥) (λ left. AreRemovals M rows columns given left.rows.items left.columns.items)
    → AreRemovals M rows columns steps left.rows.items left.columns.items
removals_if_found M rows columns given steps found left same is h = subst (λ (steps : List Step). AreRemovals M rows columns steps left.rows.items left.columns.items) same
    (subst (λ (found : Option LinesLeft). MatchOption found ((r c : List Bool) → AreRemovals M rows columns given r c → ⊥) (λ left. AreRemovals M rows columns given left.rows.items left.columns.items)) is h)

module _ (m : SparseRows) (shape : AreSparseRows m) (evidence : UnimodularityEvidence) (rows columns : List Bool)
    (removals : AreRemovals (sparse_entry m) (replicate (length m.runs) true) (replicate m.width true) evidence.steps.items rows columns)
    (divided : AreDividedParts (entry (matrix_of_runs m)) rows columns (sets_of evidence.parts.items))
    (reasons : AllByRecursion (HasReasonIn (matrix_of_runs m)) evidence.parts.items) where
  entries_are : sparse_entry m ≡ entry (matrix_of_runs m)
  entries_are = fun_ext (λ row. fun_ext (λ column. sym (matrix_entry m shape row column)))

  pub checked_is_accepted : IsAccepted (matrix_of_runs m) evidence
  checked_is_accepted = record {
    rows = rows;
    columns = columns;
    removals = subst (λ (M : ℕ → ℕ → ℤ). AreRemovals M (replicate (length (matrix_of_runs m).rows) true) (replicate m.width true) evidence.steps.items rows columns) entries_are
        (subst (λ (count : ℕ). AreRemovals (sparse_entry m) (replicate count true) (replicate m.width true) evidence.steps.items rows columns) (sym (height_of_runs m)) removals);
    divided = divided;
    reasons = reasons;
  }

  pub checked_is_proved : IsProved (matrix_of_runs m)
  checked_is_proved = accepted_is_proved (matrix_of_runs m) evidence (matrix_is_ternary m shape) checked_is_accepted
