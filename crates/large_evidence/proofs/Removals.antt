-- Steps are followed, one after another.
use Rattle.std.proofs.Common.{◌≡◌, ◌∙◌, ap, subst, sym, refl, false, ℕ, ℤ, Bool, List, ◌∷◌, length}
use Rattle.std.specs.Prelude.{◌↔◌}
use Rattle.std.proofs.lemmas.List.{length-set}
use Rattle.cmr_base.specs.declared.line.Line.{Line}
use Rattle.cmr_base.specs.declared.line.Line.TheVariants.{Row, Column}
use Rattle.cmr_base.specs.declared.line.Step.{Step}
use Rattle.sparse_matrix.specs.SparseRows.{SparseRows}
use Rattle.large_evidence.specs.declared.lines_left.LinesLeft.{LinesLeft}
use Rattle.large_evidence.specs.RemovedMarks.{AreRemovals, HasMarksFor, MayBeRemoved, column_marks_after, row_marks_after}

row_marks_length : (rows : List Bool) (line : Line) → length (row_marks_after rows line) ≡ length rows
row_marks_length rows (Row row) = length-set rows row false
row_marks_length rows (Column column) = refl

column_marks_length : (columns : List Bool) (line : Line) → length (column_marks_after columns line) ≡ length columns
column_marks_length columns (Row row) = refl
column_marks_length columns (Column column) = length-set columns column false

pub marks_kept : (m : SparseRows) (before after : LinesLeft) (line : Line) → HasMarksFor m before → after.rows.items ≡ row_marks_after before.rows.items line
    → after.columns.items ≡ column_marks_after before.columns.items line → HasMarksFor m after
marks_kept m before after line marks e f = record {
  rows = ap length e ∙ row_marks_length before.rows.items line ∙ marks.rows;
  columns = ap length f ∙ column_marks_length before.columns.items line ∙ marks.columns;
}

module _ (M : ℕ → ℕ → ℤ) (rows columns : List Bool) (step : Step) (here rest : List Step) (all : List Bool → List Bool → Type 0) (split : here ≡ step ∷ rest)
    (same : (r c : List Bool) → AreRemovals M rows columns here r c ↔ all r c) where
  pub none_removes : ¬ (MayBeRemoved M rows columns step.line step.reason) → (r c : List Bool) → all r c → ⊥
  none_removes not r c h = not (subst (λ (steps : List Step). AreRemovals M rows columns steps r c) split ((same r c).1 h)).0

  pub removals_more : (next_rows next_columns : List Bool) → MayBeRemoved M rows columns step.line step.reason → next_rows ≡ row_marks_after rows step.line
      → next_columns ≡ column_marks_after columns step.line → (r c : List Bool) → AreRemovals M next_rows next_columns rest r c ↔ all r c
  removals_more next_rows next_columns first e f r c = (
    λ h. (same r c).0 (subst (λ (steps : List Step). AreRemovals M rows columns steps r c) (sym split)
        (first, subst (λ (xs : List Bool). AreRemovals M xs (column_marks_after columns step.line) rest r c) e (subst (λ (xs : List Bool). AreRemovals M next_rows xs rest r c) f h))),
    λ h. subst (λ (xs : List Bool). AreRemovals M xs next_columns rest r c) (sym e) (subst (λ (xs : List Bool). AreRemovals M (row_marks_after rows step.line) xs rest r c) (sym f)
        (subst (λ (steps : List Step). AreRemovals M rows columns steps r c) split ((same r c).1 h)).1),
  )
