-- A matrix with accepted evidence has no violator.
use Rattle.std.proofs.Common.{◌≡◌, ◌≢◌, ◌<◌, ◌∙◌, inl, inr, ℕ, zero, suc, ℤ, pos, Bool, true, false, List, [], ◌∷◌, length, set, replicate, subst, arith}
use Rattle.std.proofs.lemmas.List.{get_or-replicate, get_or-set_other}
use Rattle.std.specs.List.{AllByRecursion, Contains}
use Rattle.cmr_base.specs.declared.line.Line.{Line}
use Rattle.cmr_base.specs.declared.line.Line.TheVariants.{Row, Column}
use Rattle.cmr_base.specs.declared.line.Reason.{Reason}
use Rattle.cmr_base.specs.declared.line.Reason.TheVariants.{Zero, Unit as One, Copy, Negative}
use Rattle.cmr_base.specs.declared.line.Step.{Step}
use Rattle.cmr_base.specs.declared.line_set.LineSet.{LineSet}
use Rattle.cmr_base.specs.Components.{ArePartsOf, part_at}
use Rattle.cmr_base.specs.LineSets.{submatrix}
use Rattle.cmr_base.specs.Matrix.{Matrix, height, entry, is_nonzero, IsEntry, IsTernary}
use Rattle.cmr_base.specs.Violator.{HasNoViolator}
use Rattle.cmr_base.proofs.Booleans.{nonzero_is, two_cases, zero_is}
use Rattle.cmr_base.proofs.Parts.{is_ternary-submatrix}
use Rattle.cmr_base.proofs.SignEntries.{sign_of_entry}
use Rattle.ghouila.specs.Found.{marked}
use Rattle.ghouila.proofs.CamionLaw.{camion}
use Rattle.ghouila.proofs.ConnectedParts.{parts_decide}
use Rattle.ghouila.proofs.ReducedLines.{reduce_column, reduce_row}
use Rattle.ghouila.proofs.ReducibleRows.{But, IsReducibleRow, crossed}
use Rattle.ghouila.proofs.ViolatedLines.{FreeIn, free_from_submatrix, narrower, none_from_free}
use Rattle.sparse_matrix.specs.LineMarks.{is_marked}
use Rattle.sparse_matrix.proofs.MarkedLines.{contains_marked, marked_contains}
use Rattle.sparse_core.specs.Nonzeros.{HasThinReason}
use Rattle.split_laws.proofs.SplitLemmas.{splits_are_unimodular, splits_of_columns_are_unimodular}
use Rattle.two_nonzeros.specs.Cancelling.{sign_at}
use Rattle.tree_type.specs.DecompositionTrees.{tree_of}
use Rattle.tree_type.specs.Verdicts.{Verdict, Yes}
use Rattle.tree_laws.specs.Laws.{IsProved, VerdictMeans}
use Rattle.tree_laws.proofs.SoundTrees.{verdict_means}
use Rattle.large_evidence.specs.declared.evidence.PartEvidence.{PartEvidence}
use Rattle.large_evidence.specs.declared.evidence.PartReason.{PartReason}
use Rattle.large_evidence.specs.declared.evidence.PartReason.TheVariants.{Columns, Rows, Tree}
use Rattle.large_evidence.specs.declared.evidence.UnimodularityEvidence.{UnimodularityEvidence}
use Rattle.large_evidence.specs.RemovedMarks.{AreRemovals, MayBeRemoved, column_marks_after, row_marks_after}
use Rattle.large_evidence.specs.LineDivisions.{AreDividedParts, sets_of}
use Rattle.large_evidence.specs.LargeEvidence.{HasReasonIn, IsAccepted, IsReasonFor}

abbrev pub HasMarkIn : List Bool → ℕ → Type 0
HasMarkIn marks line = is_marked marks line ≡ true

-- ---- steps

module _ (M : ℕ → ℕ → ℤ) where
  reducible : (line : ℕ) (P : ℕ → Type 0) (marks : List Bool) (cross : ℕ → Line) (reason : Reason) → ((k : ℕ) → IsEntry (M line k)) → HasThinReason (M line) marks cross reason
      → IsReducibleRow M P (HasMarkIn marks) line
  reducible line P marks cross Zero small thin = inl (λ k mark. thin k mark)
  reducible line P marks cross (One other) small thin =
      inr (inl (thin.0, thin.2.here.remains, sign_of_entry (M line thin.0) (small thin.0) thin.2.here.nonzero, λ k mark apart. thin.2.zeros k apart mark))
  reducible line P marks cross (Copy other) small thin = absurd thin
  reducible line P marks cross (Negative other) small thin = absurd thin

others_keep : (marks : List Bool) (line k : ℕ) → But (HasMarkIn marks) line k → HasMarkIn (set marks line false) k
others_keep marks line k (mark, apart) = get_or-set_other marks line k false false apart ∙ mark

module _ (M : ℕ → ℕ → ℤ) (small : (row column : ℕ) → IsEntry (M row column)) where
  free_before : (rows columns : List Bool) (line : Line) (reason : Reason) → MayBeRemoved M rows columns line reason
      → FreeIn M (HasMarkIn (row_marks_after rows line)) (HasMarkIn (column_marks_after columns line)) → FreeIn M (HasMarkIn rows) (HasMarkIn columns)
  free_before rows columns (Row row) reason (mark, thin) free =
      (reduce_row M (HasMarkIn rows) (HasMarkIn columns) row (reducible M row (HasMarkIn rows) columns Column reason (small row) thin)).1
      (narrower M (HasMarkIn (set rows row false)) (HasMarkIn columns) (But (HasMarkIn rows) row) (HasMarkIn columns) (others_keep rows row) (λ column h. h) free)
  free_before rows columns (Column column) reason (mark, thin) free =
      (reduce_column M (HasMarkIn rows) (HasMarkIn columns) column (reducible (crossed M) column (HasMarkIn columns) rows Row reason (λ row. small row column) thin)).1
      (narrower M (HasMarkIn rows) (HasMarkIn (set columns column false)) (HasMarkIn rows) (But (HasMarkIn columns) column) (λ row h. h) (others_keep columns column) free)

  free_from_rest : (rows columns : List Bool) (steps : List Step) (rows_left columns_left : List Bool) → AreRemovals M rows columns steps rows_left columns_left
      → FreeIn M (HasMarkIn rows_left) (HasMarkIn columns_left) → FreeIn M (HasMarkIn rows) (HasMarkIn columns)
  free_from_rest rows columns [] rows_left columns_left (e, f) free =
      subst (λ (xs : List Bool). FreeIn M (HasMarkIn xs) (HasMarkIn columns)) e (subst (λ (xs : List Bool). FreeIn M (HasMarkIn rows_left) (HasMarkIn xs)) f free)
  free_from_rest rows columns (step ∷ steps) rows_left columns_left (first, rest) free = free_before rows columns step.line step.reason first
      (free_from_rest (row_marks_after rows step.line) (column_marks_after columns step.line) steps rows_left columns_left rest free)

-- ---- parts

module _ (M : ℕ → ℕ → ℤ) (rows columns : List Bool) (parts : List LineSet) (are : AreDividedParts M rows columns parts) where
  zero_between : (part other row column : ℕ) → part < length parts → other < length parts → part ≢ other → Contains (part_at parts part).rows row → Contains (part_at parts other).columns column
      → M row column ≡ pos 0
  zero_between part other row column l k apart h g = elim (two_cases (is_nonzero (M row column))) [
    | inl e ↦ absurd (apart (are.together part other row column l k h g (nonzero_is (M row column) e)))
    | inr e ↦ zero_is (M row column) e
  ]

  pub parts_of_marked : ArePartsOf M (marked rows) (marked columns) parts
  parts_of_marked = record {
    rows_within = λ part l row h. contains_marked rows row (are.rows_divided.within part row l h);
    columns_within = λ part l column h. contains_marked columns column (are.columns_divided.within part column l h);
    rows_all = λ row h. are.rows_divided.all row (marked_contains rows row h);
    columns_all = λ column h. are.columns_divided.all column (marked_contains columns column h);
    zero = λ part other row column l k apart h g. zero_between part other row column l k apart h g;
  }

-- ---- reasons

yes_means : (m : Matrix) (verdict : Verdict) → verdict ≡ Yes → VerdictMeans m verdict → HasNoViolator m
yes_means m verdict e means = (subst (VerdictMeans m) e means).none

reason_free : (m : Matrix) (reason : PartReason) → IsTernary m → IsReasonFor m reason → HasNoViolator m
reason_free m (Columns minus) is (count, cancel) = (splits_are_unimodular m (sign_at minus.items) is cancel).1
reason_free m (Rows minus) is (count, cancel) = (splits_of_columns_are_unimodular m (sign_at minus.items) is cancel).1
reason_free m (Tree tree) is decomposed = yes_means m _ decomposed.yes (verdict_means m decomposed.small tree.rows tree.columns (tree_of tree.root) decomposed.shape decomposed.sound)

-- ---- the law

all_have_marks : (count line : ℕ) → line < count → HasMarkIn (replicate count true) line
all_have_marks count line l = get_or-replicate count line true false l

pub accepted_is_proved : (m : Matrix) (evidence : UnimodularityEvidence) → IsTernary m → IsAccepted m evidence → IsProved m
accepted_is_proved m evidence is accepted = record { unimodular = (camion m is.small).1 none; none = none }
  where
    parts : List PartEvidence
    parts = evidence.parts.items

    part_free : (part : ℕ) → part < length (sets_of parts) → HasNoViolator (submatrix m (part_at (sets_of parts) part).rows (part_at (sets_of parts) part).columns)
    part_free part l = set_free parts part l accepted.reasons
      where
        set_free : (parts : List PartEvidence) (part : ℕ) → part < length (sets_of parts) → AllByRecursion (HasReasonIn m) parts
            → HasNoViolator (submatrix m (part_at (sets_of parts) part).rows (part_at (sets_of parts) part).columns)
        set_free [] part l h = absurd (omega (arith, l))
        set_free (first ∷ rest) zero l h = reason_free (submatrix m first.lines.rows first.lines.columns) first.reason (is_ternary-submatrix m first.lines.rows first.lines.columns is) h.0
        set_free (first ∷ rest) (suc part) l h = set_free rest part (omega (arith, l)) h.1

    left : HasNoViolator (submatrix m (marked accepted.rows) (marked accepted.columns))
    left = (parts_decide m (marked accepted.rows) (marked accepted.columns) (sets_of parts)
        (parts_of_marked (entry m) accepted.rows accepted.columns (sets_of parts) accepted.divided)).1 part_free

    none : HasNoViolator m
    none = none_from_free m (narrower (entry m) (HasMarkIn (replicate (height m) true)) (HasMarkIn (replicate m.width true)) (λ row. row < height m) (λ column. column < m.width)
        (all_have_marks (height m)) (all_have_marks m.width)
        (free_from_rest (entry m) is.small (replicate (height m) true) (replicate m.width true) evidence.steps.items accepted.rows accepted.columns accepted.removals
        (narrower (entry m) (Contains (marked accepted.rows)) (Contains (marked accepted.columns)) (HasMarkIn accepted.rows) (HasMarkIn accepted.columns)
        (contains_marked accepted.rows) (contains_marked accepted.columns)
        (free_from_submatrix m (marked accepted.rows) (marked accepted.columns) left))))
