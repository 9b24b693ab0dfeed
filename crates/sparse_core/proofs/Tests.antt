-- A line is tested, and removed if it is zero or a unit line.
use Rattle.std.proofs.Common.{◌≡◌, ◌<◌, ◌∙◌, inl, inr, ℕ, ℤ, Bool, true, false, List, [], ◌∷◌, ◌++◌, length, get_or, set, replicate, refl, ap, sym, subst, arith}
use Rattle.std.proofs.lemmas.Bool.{cases_lt}
use Rattle.std.proofs.lemmas.List.{get_or_past, get_or_read, length-set, length-map, length-replicate}
use Rattle.std.specs.List.{AllByRecursion, Contains}
use Rattle.cmr_base.specs.declared.line.Line.TheVariants.{Row, Column}
use Rattle.cmr_base.specs.declared.line.Reason.{Reason}
use Rattle.cmr_base.specs.declared.line.Step.{Step}
use Rattle.cmr_base.specs.Matrix.{entry}
use Rattle.cmr_base.specs.LineSets.{first_lines}
use Rattle.cmr_base.specs.Reductions.{rows_without, columns_without}
use Rattle.cmr_base.proofs.Booleans.{true_is_false}
use Rattle.cmr_base.proofs.Lists.{all-append, length-more}
use Rattle.cmr_base.proofs.RemovedLines.{fewer_lines}
use Rattle.ghouila.specs.Found.{marked}
use Rattle.sparse_matrix.specs.declared.nonzero.Nonzero.{Nonzero}
use Rattle.sparse_matrix.specs.SparseRows.{SparseRows, AreSparseRows, AreCrossed, run_of, value_in, matrix_of_runs}
use Rattle.sparse_matrix.proofs.Matrices.{matrix_entry, matrix_is_ternary}
use Rattle.sparse_core.specs.declared.removal.TwoCore.{TwoCore}
use Rattle.sparse_core.specs.Nonzeros.{HasTwo, HasThinReason}
use Rattle.sparse_core.specs.TwoCores.{IsTwoCore, IsThinStep, IsThinRemoval, IsSparseLine, IsTested, LinesHaveTwo, RowHasTwo, ColumnHasTwo, HasRemoved}
use Rattle.sparse_matrix.proofs.MarkedLines.{contains_marked, marked_contains}
use Rattle.sparse_core.proofs.Marks.{all_marked_lines, marked-unmarked}
use Rattle.sparse_core.proofs.Removals.{core_is, removed_more}
use Rattle.sparse_core.proofs.ThinLines.{reason_is, thin_is, thin_same, two_same}

-- a mark that is read
pub mark_read : (marks : List Bool) (line size : ℕ) (mark value : Bool) → mark ≡ get_or marks line mark → line < size → length marks ≡ size → mark ≡ value → get_or marks line false ≡ value
mark_read marks line size mark value read inside long e = sym (get_or_read marks line mark (omega (arith, inside, long)) read false) ∙ e

-- nothing changes
pub untouched : (m : SparseRows) (core : TwoCore) (facts : Type 0) → HasRemoved m core → facts → IsTested m core core false facts
untouched m core facts stands h = record { stands = stands; fewer = λ e. true_is_false (sym e); steps = λ e. true_is_false (sym e); same = λ e. refl; hold = λ e. h }

pub gone_row : (m : SparseRows) (core : TwoCore) (row : ℕ) → get_or core.rows.items row false ≡ false → RowHasTwo m core row
gone_row m core row e h = true_is_false (sym (marked_contains core.rows.items row h) ∙ e)

pub gone_column : (m : SparseRows) (core : TwoCore) (column : ℕ) → get_or core.columns.items column false ≡ false → ColumnHasTwo m core column
gone_column m core column e h = true_is_false (sym (marked_contains core.columns.items column h) ∙ e)

module _ (m : SparseRows) (core later : TwoCore) (stands : HasRemoved m core) (step : Step) (inside : IsSparseLine m step.line)
    (is : IsThinStep (entry (matrix_of_runs m)) (marked core.rows.items) (marked core.columns.items) step) (steps_are : later.steps.items ≡ core.steps.items ++ step ∷ [])
    (long_rows : length later.rows.items ≡ length core.rows.items) (long_columns : length later.columns.items ≡ length core.columns.items)
    (rows_are : marked later.rows.items ≡ rows_without (marked core.rows.items) step.line) (columns_are : marked later.columns.items ≡ columns_without (marked core.columns.items) step.line) where
  stands_later : HasRemoved m later
  stands_later = record {
    rows = long_rows ∙ stands.rows;
    columns = long_columns ∙ stands.columns;
    inside = subst (AllByRecursion (λ (s : Step). IsSparseLine m s.line)) (sym steps_are) (all-append (λ (s : Step). IsSparseLine m s.line) core.steps.items (step ∷ []) stands.inside (inside, tt));
    removal = subst (λ (steps : List Step). IsThinRemoval (entry (matrix_of_runs m)) (first_lines (length m.runs)) (first_lines m.width) steps (marked later.rows.items) (marked later.columns.items)) (sym steps_are)
        (subst (λ (R : List ℕ). IsThinRemoval (entry (matrix_of_runs m)) (first_lines (length m.runs)) (first_lines m.width) (core.steps.items ++ step ∷ []) R (marked later.columns.items)) (sym rows_are)
        (subst (λ (C : List ℕ). IsThinRemoval (entry (matrix_of_runs m)) (first_lines (length m.runs)) (first_lines m.width) (core.steps.items ++ step ∷ []) (rows_without (marked core.rows.items) step.line) C) (sym columns_are)
        (removed_more (entry (matrix_of_runs m)) (first_lines (length m.runs)) (first_lines m.width) core.steps.items (marked core.rows.items) (marked core.columns.items) step stands.removal is)));
  }

  pub removed_one : (facts : Type 0) → IsTested m core later true facts
  removed_one facts = record {
    stands = stands_later;
    fewer = λ e.
        let fewer_left = fewer_lines step.line (marked core.rows.items) (marked core.columns.items) is.remains in
        let same_rows = ap length rows_are in
        let same_columns = ap length columns_are in
        omega (arith, fewer_left, same_rows, same_columns);
    steps = λ e. let same_steps = ap length steps_are in let one_more = length-more core.steps.items step in omega (arith, same_steps, one_more);
    same = λ e. true_is_false e;
    hold = λ e. true_is_false e;
  }

module _ (m : SparseRows) (shape : AreSparseRows m) (core later : TwoCore) (stands : HasRemoved m core) (row : ℕ) (inside : row < length m.runs) where
  pub row_has_two : (run : List Nonzero) (marks : List Bool) → run ≡ run_of m row → marks ≡ core.columns.items → HasTwo (value_in run) (marked marks)
      → IsTested m core core false (RowHasTwo m core row)
  row_has_two run marks e f two = untouched m core (RowHasTwo m core row) stands
      (λ h. subst (λ (xs : List Bool). HasTwo (entry (matrix_of_runs m) row) (marked xs)) f
      (two_same (value_in run) (entry (matrix_of_runs m) row) (marked marks) (λ k. matrix_entry m shape row k ∙ ap (λ (xs : List Nonzero). value_in xs k) (sym e)) two))

  pub row_removed : (run : List Nonzero) (marks : List Bool) → run ≡ run_of m row → marks ≡ core.columns.items → (reason : Reason) (facts : Type 0)
      → get_or core.rows.items row false ≡ true → HasThinReason (value_in run) marks Column reason
      → later.steps.items ≡ core.steps.items ++ record { line = Row row; reason = reason } ∷ [] → later.rows.items ≡ set core.rows.items row false → later.columns.items ≡ core.columns.items
      → IsTested m core later true facts
  row_removed run marks e f reason facts there thin steps_are rows_are columns_are = let value : ℕ → ℕ → ℤ = entry (matrix_of_runs m) in
      let thin' : HasThinReason (value row) core.columns.items Column reason = subst (λ (xs : List Bool). HasThinReason (value row) xs Column reason) f
      (thin_same (value_in run) (value row) marks Column reason (λ k. matrix_entry m shape row k ∙ ap (λ (xs : List Nonzero). value_in xs k) (sym e)) thin) in
      removed_one m core later stands (record { line = Row row; reason = reason }) inside (record {
        remains = contains_marked core.rows.items row there;
        reason = λ binary. reason_is binary value Row Column (marked core.rows.items) core.columns.items row reason thin';
        thin = thin_is (value row) core.columns.items Column reason thin';
      }) steps_are (ap length rows_are ∙ length-set core.rows.items row false) (ap length columns_are)
      (ap marked rows_are ∙ marked-unmarked core.rows.items row (let mark_count = stands.rows in omega (arith, mark_count, inside))) (ap marked columns_are) facts

module _ (m t : SparseRows) (shape : AreSparseRows m) (crossed : AreCrossed m t) (core later : TwoCore) (stands : HasRemoved m core) (column : ℕ) (inside : column < length t.runs) where
  value_is : (row : ℕ) → entry (matrix_of_runs m) row column ≡ value_in (run_of t column) row
  value_is row = matrix_entry m shape row column ∙ sym (crossed.entries row column)

  pub column_has_two : (run : List Nonzero) (marks : List Bool) → run ≡ run_of t column → marks ≡ core.rows.items → HasTwo (value_in run) (marked marks)
      → IsTested m core core false (ColumnHasTwo m core column)
  column_has_two run marks e f two = untouched m core (ColumnHasTwo m core column) stands
      (λ h. subst (λ (xs : List Bool). HasTwo (λ row. entry (matrix_of_runs m) row column) (marked xs)) f
      (two_same (value_in run) (λ row. entry (matrix_of_runs m) row column) (marked marks) (λ k. value_is k ∙ ap (λ (xs : List Nonzero). value_in xs k) (sym e)) two))

  pub column_removed : (run : List Nonzero) (marks : List Bool) → run ≡ run_of t column → marks ≡ core.rows.items → (reason : Reason) (facts : Type 0)
      → get_or core.columns.items column false ≡ true → HasThinReason (value_in run) marks Row reason
      → later.steps.items ≡ core.steps.items ++ record { line = Column column; reason = reason } ∷ [] → later.rows.items ≡ core.rows.items
      → later.columns.items ≡ set core.columns.items column false → IsTested m core later true facts
  column_removed run marks e f reason facts there thin steps_are rows_are columns_are = let value_across : ℕ → ℕ → ℤ = λ j i. entry (matrix_of_runs m) i j in
      let thin' : HasThinReason (value_across column) core.rows.items Row reason = subst (λ (xs : List Bool). HasThinReason (value_across column) xs Row reason) f
      (thin_same (value_in run) (value_across column) marks Row reason (λ k. value_is k ∙ ap (λ (xs : List Nonzero). value_in xs k) (sym e)) thin) in
      removed_one m core later stands (record { line = Column column; reason = reason }) (let crossed_rows = crossed.rows in omega (arith, crossed_rows, inside)) (record {
        remains = contains_marked core.columns.items column there;
        reason = λ binary. reason_is binary value_across Column Row (marked core.columns.items) core.rows.items column reason thin';
        thin = thin_is (value_across column) core.rows.items Row reason thin';
      }) steps_are (ap length rows_are) (ap length columns_are ∙ length-set core.columns.items column false) (ap marked rows_are)
      (ap marked columns_are ∙ marked-unmarked core.columns.items column (let mark_count = stands.columns in let crossed_rows = crossed.rows in omega (arith, mark_count, crossed_rows, inside))) facts

-- ---- the first state and the last

pub stands_first : (m : SparseRows) (core : TwoCore) → core.steps.items ≡ [] → core.rows.items ≡ replicate (length m.runs) true → core.columns.items ≡ replicate m.width true → HasRemoved m core
stands_first m core steps rows columns = record {
  rows = ap length rows ∙ length-replicate (length m.runs) true;
  columns = ap length columns ∙ length-replicate m.width true;
  inside = subst (AllByRecursion (λ (s : Step). IsSparseLine m s.line)) (sym steps) tt;
  removal = subst (λ (xs : List Step). IsThinRemoval (entry (matrix_of_runs m)) (first_lines (length m.runs)) (first_lines m.width) xs (marked core.rows.items) (marked core.columns.items)) (sym steps)
      (ap marked rows ∙ all_marked_lines (length m.runs), ap marked columns ∙ all_marked_lines m.width);
}

inside_marks : (marks : List Bool) (line : ℕ) → Contains (marked marks) line → line < length marks
inside_marks marks line h = elim (cases_lt line (length marks)) [
  | inl l ↦ l
  | inr l ↦ true_is_false (sym (marked_contains marks line h) ∙ get_or_past marks line false l)
]

pub core_found : (m : SparseRows) (core : TwoCore) → AreSparseRows m → HasRemoved m core → LinesHaveTwo m core
    → IsTwoCore (entry (matrix_of_runs m)) (marked core.rows.items) (marked core.columns.items)
core_found m core shape stands two = core_is (matrix_of_runs m) (matrix_is_ternary m shape).rectangular core.steps.items (marked core.rows.items) (marked core.columns.items)
    (subst (λ (n : ℕ). IsThinRemoval (entry (matrix_of_runs m)) (first_lines n) (first_lines m.width)
    core.steps.items (marked core.rows.items) (marked core.columns.items)) (sym (length-map m.runs _)) stands.removal)
    (record {
      rows_have = λ row h. two.rows_have row (let mark_below = inside_marks core.rows.items row h in let mark_count = stands.rows in omega (arith, mark_below, mark_count)) h;
      columns_have = λ column h. two.columns_have column (let mark_below = inside_marks core.columns.items column h in let mark_count = stands.columns in omega (arith, mark_below, mark_count)) h;
    })
