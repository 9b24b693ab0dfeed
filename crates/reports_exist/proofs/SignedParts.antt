-- A submatrix with signed lines is a matrix.
use Rattle.std.proofs.Common.{◌≡◌, ◌≤◌, ◌<◌, ◌*ℤ◌, ℕ, zero, suc, ℤ, pos, List, [], ◌∷◌, length, map, get_or, arith}
use Rattle.std.proofs.lemmas.List.{length-map}
use Rattle.std.specs.List.{AllByRecursion}
use Rattle.cmr_base.specs.Matrix.{Matrix, IsEntry, IsMatrix, entry, height}
use Rattle.cmr_base.specs.Signing.{IsSign}
use Rattle.cmr_base.proofs.SmallEntries.{zero_is_entry}
use Rattle.ghouila.proofs.Minors.{entry_by_sign}
use Rattle.compose.specs.Arrangements.{HasSignedLines, signed_submatrix}
use Rattle.compose.specs.declared.arrangement.Arrangement.{Arrangement}

-- lines with signs, as any values with a line and a sign
module _ {A : Type 0} (line : A → ℕ) (sign : A → ℤ) (m : Matrix) (is : IsMatrix m) where
  AreSigned : ℕ → List A → Type 0
  AreSigned bound lines = AllByRecursion (λ a. (line a < bound) × IsSign (sign a)) lines

  cell : A → A → ℤ
  cell row column = sign row *ℤ (sign column *ℤ entry m (line row) (line column))

  row_cells : (row : A) → IsSign (sign row) → (bound : ℕ) (columns : List A) → AreSigned bound columns → (column : ℕ) → IsEntry (get_or (map (cell row) columns) column (pos 0))
  unfolding AreSigned cell
  row_cells row signed bound [] all column = zero_is_entry
  row_cells row signed bound (first ∷ columns) all zero = entry_by_sign (sign row) _ signed (entry_by_sign (sign first) _ all.0.1 (is.small (line row) (line first)))
  row_cells row signed bound (first ∷ columns) all (suc column) = row_cells row signed bound columns all.1 column

  all_cells : (high wide : ℕ) (rows columns : List A) → AreSigned high rows → AreSigned wide columns → (row column : ℕ)
      → IsEntry (get_or (get_or (map (λ a. map (cell a) columns) rows) row []) column (pos 0))
  unfolding AreSigned
  all_cells high wide [] columns all all' row column = zero_is_entry
  all_cells high wide (first ∷ rows) columns all all' zero column = row_cells first all.0.1 wide columns all' column
  all_cells high wide (first ∷ rows) columns all all' (suc row) column = all_cells high wide rows columns all.1 all' row column

  row_lengths : (rows columns : List A) (row : ℕ) → row < length (map (λ a. map (cell a) columns) rows) → length (get_or (map (λ a. map (cell a) columns) rows) row []) ≡ length columns
  row_lengths [] columns row l = absurd (omega (arith, l))
  row_lengths (first ∷ rows) columns zero l = length-map columns (cell first)
  row_lengths (first ∷ rows) columns (suc row) l = row_lengths rows columns row (omega (arith, l))

  signed_matrix : (rows columns : List A) → length rows ≤ height m → AllByRecursion (λ a. (line a < height m) × IsSign (sign a)) rows → length columns ≤ m.width
      → AllByRecursion (λ a. (line a < m.width) × IsSign (sign a)) columns
      → IsMatrix (record { rows = map (λ row. map (λ column. sign row *ℤ (sign column *ℤ entry m (line row) (line column))) columns) rows; width = length columns })
  unfolding AreSigned cell
  signed_matrix rows columns few_rows all few_columns all' =
      let high = is.height_in in
      let wide = is.width_in in
      let count = length-map rows (λ row. map (cell row) columns) in
      record {
        rectangular = row_lengths rows columns;
        small = all_cells (height m) m.width rows columns all all';
        height_in = omega (arith, high, few_rows, count);
        width_in = omega (arith, wide, few_columns);
      }

-- the same with the lists first
signed_is_matrix : {A : Type 0} (rows columns : List A) (line : A → ℕ) (sign : A → ℤ) (m : Matrix) → IsMatrix m → length rows ≤ height m
    → AllByRecursion (λ a. (line a < height m) × IsSign (sign a)) rows → length columns ≤ m.width
    → AllByRecursion (λ a. (line a < m.width) × IsSign (sign a)) columns → IsMatrix (record { rows = map (λ row. map (λ column. sign row *ℤ (sign column *ℤ entry m (line row) (line column))) columns) rows; width = length columns })
signed_is_matrix rows columns line sign m is = signed_matrix line sign m is rows columns

module _ (m : Matrix) (is : IsMatrix m) (arrangement : Arrangement) (fits : HasSignedLines m arrangement) where
  pub first_is_matrix : IsMatrix (signed_submatrix m arrangement.first_rows arrangement.first_columns)
  first_is_matrix = signed_is_matrix arrangement.first_rows arrangement.first_columns (λ a. a.line) (λ a. a.sign) m is fits.first_rows.few fits.first_rows.each fits.first_columns.few fits.first_columns.each

  pub second_is_matrix : IsMatrix (signed_submatrix m arrangement.second_rows arrangement.second_columns)
  second_is_matrix = signed_is_matrix arrangement.second_rows arrangement.second_columns (λ a. a.line) (λ a. a.sign) m is fits.second_rows.few fits.second_rows.each fits.second_columns.few fits.second_columns.each
