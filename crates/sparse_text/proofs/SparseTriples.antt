-- The triples that are read one after another.
use Rattle.std.proofs.Common.{◌≡◌, ◌<◌, ◌≤◌, ◌+◌, ◌-◌, ◌*◌, ◌^◌, ◌&&◌, ◌||◌, ◌++◌, ◌∙◌, ℕ, ℤ, pos, Bool, false, nat_eq, if◌then◌else◌, List, [], ◌∷◌, length, map, take, refl, ap₂, sym, arith}
use Rattle.std.specs.Prelude.{replicate}
use Rattle.std.specs.BTreeMap.{is_at}
use Rattle.std.specs.BTreeSet.{BTreeSet, IsEmpty}
use Rattle.std.specs.List.{list_any}
use Rattle.std.specs.Ordering.{nat_cmp}
use Rattle.std.proofs.lemmas.List.{length-map, length-replicate}
use Rattle.cmr_base.specs.LineSets.{first_lines}
use Rattle.cmr_base.specs.Matrix.{Matrix, is_nonzero}
use Rattle.cmr_base.proofs.Booleans.{eq_of, is_eq, same_test}
use Rattle.matrix_text.specs.Sparse.{Triple, names, is_place_named, value_at, matrix_of_triples}
use Rattle.matrix_text.proofs.Places.{AreTaken, table_of, value_unnamed}
use Rattle.sparse_matrix.specs.SparseRows.{SparseRows, AreSparseRows, value_in, sparse_entry, matrix_of_runs}
use Rattle.sparse_matrix.specs.declared.nonzero.Nonzero.{Nonzero}
use Rattle.sparse_matrix.specs.declared.nonzero.TheConstants.{MAX_SPARSE_LINES}
use Rattle.sparse_matrix.proofs.Matrices.{matrix_entry, matrix_is_ternary}
use Rattle.sparse_text.specs.NamedPositions.{HasNewPosition, has_position}
use Rattle.sparse_text.specs.declared.named.TheConstants.{SCANNED}
use Rattle.sparse_text.specs.WrittenEntries.{HasNewEntry}
use Rattle.sparse_text.proofs.PushedTriples.{mark_pushed, value_pushed}
use Rattle.sparse_text.proofs.DenseEntries.{zero_entry, zero_run}

-- the named positions are those of the triples, and the entries are the values of the triples
pub record AreTriplesOf (high width : ℕ) (others : BTreeSet ℕ) (triples : List Triple) (m : SparseRows) : Type 0 where
  pub rows : length m.runs ≡ high
  pub wide : m.width ≡ width
  pub marks : (row column : ℕ) → column < 2 ^ 32 → has_position m others row column ≡ is_place_named triples (row + 1) (column + 1)
  pub values : (row column : ℕ) → sparse_entry m row column ≡ value_at triples (row + 1) (column + 1)

pub no_triples : (high width : ℕ) (others : BTreeSet ℕ) → IsEmpty others → AreTriplesOf high width others [] (record { runs = replicate high []; width = width })
no_triples high width others empty = record {
  rows = length-replicate high [];
  wide = refl;
  marks = λ row column l.
      ap₂ (λ (run : List Nonzero) (keys : List ℕ). is_nonzero (value_in (take SCANNED run) column) || list_any (is_at (nat_cmp (row * 2 ^ 32 + column))) keys) (zero_run high width row) empty;
  values = λ row column. zero_entry high width row column;
}

module _ (high width : ℕ) (others : BTreeSet ℕ) (triples : List Triple) (m : SparseRows) (are : AreTriplesOf high width others triples m) where
  pub are_taken : width ≤ MAX_SPARSE_LINES → AreTaken high width (λ row column. has_position m others (row - 1) (column - 1)) triples
  are_taken few row column row_above row_in column_above column_in =
      let row_is : row - 1 + 1 ≡ row = omega arith in
      let column_is : column - 1 + 1 ≡ column = omega arith in
      are.marks (row - 1) (column - 1) (omega arith) ∙ ap₂ (is_place_named triples) row_is column_is

  -- the position of a new triple has the entry 0
  pub free_entry : (t : Triple) → 0 < t.row → 0 < t.column → is_place_named triples t.row t.column ≡ false → sparse_entry m (t.row - 1) (t.column - 1) ≡ pos 0
  free_entry t row_above column_above new =
      let row_is : t.row - 1 + 1 ≡ t.row = omega arith in
      let column_is : t.column - 1 + 1 ≡ t.column = omega arith in
      are.values (t.row - 1) (t.column - 1) ∙ ap₂ (value_at triples) row_is column_is ∙ value_unnamed triples t.row t.column new

  same_line : (line other : ℕ) → 0 < line → nat_eq (line - 1) other ≡ nat_eq line (other + 1)
  same_line line other above = same_test (nat_eq (line - 1) other) (nat_eq line (other + 1))
      (λ e. let same = eq_of (line - 1) other e in is_eq line (other + 1) (omega arith))
      (λ e. let same = eq_of line (other + 1) e in is_eq (line - 1) other (omega arith))

  pub one_more_triple : (t : Triple) (next_others : BTreeSet ℕ) (next : SparseRows) → 0 < t.row → 0 < t.column → is_place_named triples t.row t.column ≡ false
      → HasNewPosition (t.row - 1) (t.column - 1) m others next next_others → HasNewEntry (t.row - 1) (t.column - 1) t.value m next → AreTriplesOf high width next_others (triples ++ t ∷ []) next
  one_more_triple t next_others next row_above column_above new named_too written = record {
    rows = written.rows ∙ are.rows;
    wide = written.width ∙ are.wide;
    marks = λ row column l.
        named_too row column l ∙ ap₂ (λ (a b : Bool). a || b) (same_names row column) (are.marks row column l) ∙ sym (mark_pushed triples t (row + 1) (column + 1));
    values = λ row column.
        written.entries row column
        ∙ ap₂ (λ (b : Bool) (z : ℤ). if b then t.value else z) (same_names row column) (are.values row column)
        ∙ sym (value_pushed triples t (row + 1) (column + 1) new);
  }
    where
      same_names : (row column : ℕ) → (nat_eq (t.row - 1) row && nat_eq (t.column - 1) column) ≡ names (row + 1) (column + 1) t
      same_names row column = ap₂ (λ (r c : Bool). r && c) (same_line t.row row row_above) (same_line t.column column column_above)

  pub matrix_of_read : AreSparseRows m → matrix_of_runs m ≡ matrix_of_triples high width triples
  matrix_of_read shape =
      let tall = length-map m.runs (λ run. map (value_in run) (first_lines m.width)) in
      let rows = are.rows in
      let wide = are.wide in
      let rectangular = (matrix_is_ternary m shape).rectangular in
      ap₂ (λ (rows : List (List ℤ)) (width : ℕ). let made : Matrix = record { rows = rows; width = width } in made)
      (table_of high width (matrix_of_runs m).rows (value_at triples) (tall ∙ rows) (λ row l. rectangular row (omega (arith, l, tall, rows)) ∙ wide)
      (λ row column l k. matrix_entry m shape row column ∙ are.values row column))
      wide
