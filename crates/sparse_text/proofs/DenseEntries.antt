-- The entries that are read row by row.
use Rattle.std.proofs.Common.{◌≡◌, ◌<◌, ◌+◌, ◌*◌, ◌++◌, ◌∙◌, inl, inr, ℕ, zero, suc, ℤ, pos, Bool, nat_eq, if◌then◌else◌, List, [], ◌∷◌, length, map, get_or, refl, ap, ap₂, sym, arith}
use Rattle.std.specs.Prelude.{replicate}
use Rattle.std.proofs.lemmas.Bool.{cases_eq, cases_lt}
use Rattle.std.proofs.lemmas.List.{get_or_past, get_or_push, get_or_append_left, length_push, length-map}
use Rattle.cmr_base.specs.LineSets.{first_lines}
use Rattle.cmr_base.specs.Matrix.{Matrix, height, rows_of}
use Rattle.cmr_base.proofs.Booleans.{eq_test, is_ne}
use Rattle.cmr_base.proofs.Rows.{length-rows_of, length-row, entry-rows_of}
use Rattle.cmr_base.proofs.WholeMatrices.{same_matrix}
use Rattle.sparse_matrix.specs.declared.nonzero.Nonzero.{Nonzero}
use Rattle.sparse_matrix.specs.SparseRows.{SparseRows, AreSparseRows, run_of, value_in, sparse_entry, matrix_of_runs}
use Rattle.sparse_matrix.proofs.Matrices.{matrix_entry, matrix_is_ternary}
use Rattle.sparse_text.specs.WrittenEntries.{HasNewEntry}
use Rattle.sparse_text.proofs.PlaceNumbers.{same_numbers}

pub zero_run : (height width row : ℕ) → run_of (record { runs = replicate height []; width = width }) row ≡ []
zero_run zero width row = refl
zero_run (suc height) width zero = refl
zero_run (suc height) width (suc row) = zero_run height width row

pub zero_entry : (height width row column : ℕ) → sparse_entry (record { runs = replicate height []; width = width }) row column ≡ pos 0
zero_entry height width row column = ap (λ (run : List Nonzero). value_in run column) (zero_run height width row)

-- one more cell
cell_pushed : (cells : List ℤ) (value : ℤ) (place : ℕ) → get_or (cells ++ value ∷ []) place (pos 0) ≡ (if nat_eq (length cells) place then value else get_or cells place (pos 0))
cell_pushed cells value place = elim (cases_eq (length cells) place) [
  | inl e ↦ get_or_push cells value (pos 0) place e ∙ ap (λ (b : Bool). if b then value else get_or cells place (pos 0)) (sym ((eq_test (length cells) place).1 e))
  | inr differ ↦ before_or_after differ ∙ ap (λ (b : Bool). if b then value else get_or cells place (pos 0)) (sym (is_ne (length cells) place differ))
]
  where
    before_or_after : (length cells ≡ place → ⊥) → get_or (cells ++ value ∷ []) place (pos 0) ≡ get_or cells place (pos 0)
    before_or_after differ = elim (cases_lt place (length cells)) [
      | inl l ↦ get_or_append_left cells (value ∷ []) (pos 0) place l
      | inr l ↦ let more = length_push cells value in get_or_past (cells ++ value ∷ []) place (pos 0) (omega (arith, differ, l, more)) ∙ sym (get_or_past cells place (pos 0) l)
    ]

-- the entries are the cells, and zeros after them
pub record AreEntries (high width : ℕ) (cells : List ℤ) (m : SparseRows) : Type 0 where
  pub rows : length m.runs ≡ high
  pub wide : m.width ≡ width
  pub entries : (row column : ℕ) → column < width → sparse_entry m row column ≡ get_or cells (row * width + column) (pos 0)

module _ (high width : ℕ) (cells : List ℤ) (m : SparseRows) (are : AreEntries high width cells m) where
  pub one_more_entry : (at_row at_column : ℕ) (value : ℤ) (next : SparseRows) → at_column < width → at_row * width + at_column ≡ length cells → HasNewEntry at_row at_column value m next
      → AreEntries high width (cells ++ value ∷ []) next
  one_more_entry at_row at_column value next within here written = record {
    rows = written.rows ∙ are.rows;
    wide = written.width ∙ are.wide;
    entries = λ row column l.
        written.entries row column
        ∙ ap₂ (λ (b : Bool) (z : ℤ). if b then value else z)
        (sym (same_numbers width at_row at_column row column within l) ∙ ap (λ (place : ℕ). nat_eq place (row * width + column)) here)
        (are.entries row column l)
        ∙ sym (cell_pushed cells value (row * width + column));
  }

  pub matrix_of_entries : AreSparseRows m → length cells ≡ high * width → matrix_of_runs m ≡ record { rows = rows_of high width cells; width = width }
  matrix_of_entries shape count =
      let tall = length-map m.runs (λ run. map (value_in run) (first_lines m.width)) in
      let wide = are.wide in
      let rows = are.rows in
      let made : Matrix = record { rows = rows_of high width cells; width = width } in
      let made_tall = length-rows_of high width cells in
      same_matrix (matrix_of_runs m) made (matrix_is_ternary m shape).rectangular (λ row l. length-row high width cells row count (omega (arith, made_tall, l))) (tall ∙ rows ∙ sym made_tall) wide
      (λ row column l k.
      let in_row : row < high = omega (arith, l, tall, rows) in
      let in_column : column < width = omega (arith, k, wide) in
      matrix_entry m shape row column ∙ are.entries row column in_column ∙ sym (entry-rows_of high width cells row column (pos 0) in_row in_column))
