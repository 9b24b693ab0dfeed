-- The matrix of a list of runs.
use Rattle.std.proofs.Common.{◌≡◌, ◌<◌, ◌≤◌, ◌∙◌, inl, inr, ℕ, ℤ, pos, Bool, true, false, nat_eq, if◌then◌else◌, List, [], ◌∷◌, length, map, get_or, refl, ap, sym, subst, arith}
use Rattle.std.proofs.lemmas.List.{length-map, get_or-map, get_or_past}
use Rattle.std.proofs.lemmas.List.FromFn.{get_or-map-range_with_len, length-range_with_len}
use Rattle.std.proofs.lemmas.Bool.{cases_lt}
use Rattle.std.specs.List.{AllByRecursion}
use Rattle.cmr_base.specs.Matrix.{row_of, entry, IsEntry, IsTernary}
use Rattle.cmr_base.specs.LineSets.{first_lines}
use Rattle.cmr_base.proofs.Booleans.{is_ne}
use Rattle.cmr_base.proofs.Lists.{all_at}
use Rattle.cmr_base.proofs.SignEntries.{sign_is_entry, zero_is_entry}
use Rattle.sparse_matrix.specs.declared.nonzero.Nonzero.{Nonzero}
use Rattle.sparse_matrix.specs.SparseRows.{SparseRows, run_of, value_in, sparse_entry, matrix_of_runs, IsNonzeroWithin, AreSparseRows}

-- a run has no value past the width
pub value_past : (width : ℕ) (run : List Nonzero) (column : ℕ) → AllByRecursion (IsNonzeroWithin width) run → width ≤ column → value_in run column ≡ pos 0
value_past width [] column all l = refl
value_past width (x ∷ run) column all l =
    ap (λ (b : Bool). if b then x.value else value_in run column) (is_ne x.line column (λ e. let line_inside = all.0.inside in omega (arith, e, line_inside, l)))
    ∙ value_past width run column all.1 l

pub small_value : (width : ℕ) (run : List Nonzero) (column : ℕ) → AllByRecursion (IsNonzeroWithin width) run → IsEntry (value_in run column)
small_value width [] column all = zero_is_entry
small_value width (x ∷ run) column all = step (nat_eq x.line column) (sign_is_entry x.value all.0.sign) (small_value width run column all.1)
  where
    step : (b : Bool) {v w : ℤ} → IsEntry v → IsEntry w → IsEntry (if b then v else w)
    step true h g = h
    step false h g = g

module _ (m : SparseRows) (is : AreSparseRows m) where
  run_within : (row : ℕ) → AllByRecursion (IsNonzeroWithin m.width) (run_of m row)
  run_within row = elim (cases_lt row (length m.runs)) [
    | inl l ↦ all_at _ m.runs row [] is.runs_in l
    | inr l ↦ subst (AllByRecursion (IsNonzeroWithin m.width)) (sym (get_or_past m.runs row [] l)) tt
  ]

  abbrev full_row : List Nonzero → List ℤ
  full_row run = map (value_in run) (first_lines m.width)

  length-full_row : (run : List Nonzero) → length (full_row run) ≡ m.width
  length-full_row run = length-map (first_lines m.width) (value_in run) ∙ length-range_with_len 0 m.width

  row_there : (row : ℕ) → row < length m.runs → row_of (matrix_of_runs m) row ≡ full_row (run_of m row)
  row_there row l = get_or-map full_row m.runs row [] [] l

  value_there : (run : List Nonzero) (column : ℕ) → AllByRecursion (IsNonzeroWithin m.width) run → get_or (full_row run) column (pos 0) ≡ value_in run column
  value_there run column all = elim (cases_lt column m.width) [
    | inl l ↦ get_or-map-range_with_len (value_in run) 0 m.width column column (pos 0) l (omega arith)
    | inr l ↦ let long = length-full_row run in get_or_past (full_row run) column (pos 0) (omega (arith, long, l)) ∙ sym (value_past m.width run column all l)
  ]

  pub matrix_entry : (row column : ℕ) → entry (matrix_of_runs m) row column ≡ sparse_entry m row column
  matrix_entry row column = elim (cases_lt row (length m.runs)) [
    | inl l ↦ ap (λ (r : List ℤ). get_or r column (pos 0)) (row_there row l) ∙ value_there (run_of m row) column (run_within row)
    | inr l ↦ let long = length-map m.runs full_row in ap (λ (r : List ℤ). get_or r column (pos 0)) (get_or_past (map full_row m.runs) row [] (omega (arith, long, l)))
        ∙ ap (λ (r : List Nonzero). value_in r column) (sym (get_or_past m.runs row [] l))
  ]

  pub matrix_is_ternary : IsTernary (matrix_of_runs m)
  matrix_is_ternary = record {
    rectangular = λ row l. let long = length-map m.runs full_row in ap length (row_there row (omega (arith, long, l))) ∙ length-full_row (run_of m row);
    small = λ row column. subst IsEntry (sym (matrix_entry row column)) (small_value m.width (run_of m row) column (run_within row));
  }
