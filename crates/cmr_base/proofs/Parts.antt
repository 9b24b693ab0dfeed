-- Cells that are made row by row, and the entries of submatrices and of transposed matrices.
use Rattle.std.proofs.Common.{◌≡◌, ◌<◌, ◌≤◌, ◌*◌, ◌++◌, ◌∙◌, ℕ, zero, suc, ℤ, pos, List, [], ◌∷◌, map, length, take, drop, get_or, refl, ap, sym, subst, ◌⊎◌, inl, inr, arith, length-append}
use Rattle.std.proofs.lemmas.List.{get_or-map, get_or_past, length-map}
use Rattle.std.proofs.lemmas.Bool.{cases_lt}
use Rattle.std.proofs.lemmas.List.FromFn.{get_or-map-range_with_len, length-map-range_with_len}
use Rattle.std.proofs.Math.Nat.{suc-mul, zero-mul}
use Rattle.std.proofs.Math.Seq.{take-append_seam, drop-append_seam}
use Rattle.std.specs.List.{flat_map}
use Rattle.std.specs.List.Sorted.{IsStrictlyIncreasing}
use Rattle.cmr_base.specs.declared.limits.TheConstants.{MAX_COLUMNS, MAX_ROWS}
use Rattle.cmr_base.specs.Matrix.{Matrix, height, entry, column_of, transposed, IsMatrix, IsEntry, rows_of, IsRectangular, IsTernary}
use Rattle.cmr_base.specs.LineSets.{AllBelow, submatrix}
use Rattle.cmr_base.proofs.IncreasingLists.{increases_in, increasing_short}
use Rattle.cmr_base.proofs.SignEntries.{zero_is_entry}

pub length-cells : {A : Type 0} (f : A → List ℤ) (w : ℕ) (xs : List A) → ((x : A) → length (f x) ≡ w) → length (flat_map f xs) ≡ length xs * w
length-cells f w [] each = sym (zero-mul w)
length-cells f w (x ∷ xs) each = omega (arith, length-append (f x) (flat_map f xs), each x, length-cells f w xs each, suc-mul (length xs) w)

take_prefix : (xs ys : List ℤ) (w : ℕ) → length xs ≡ w → take w (xs ++ ys) ≡ xs
take_prefix xs ys w e = subst (λ n. take n (xs ++ ys) ≡ xs) e (take-append_seam xs ys)

drop_prefix : (xs ys : List ℤ) (w : ℕ) → length xs ≡ w → drop w (xs ++ ys) ≡ ys
drop_prefix xs ys w e = subst (λ n. drop n (xs ++ ys) ≡ ys) e (drop-append_seam xs ys)

-- cells that are made row by row are the cells of these rows
pub rows_of-flat_map : {A : Type 0} (f : A → List ℤ) (w : ℕ) (xs : List A) → ((x : A) → length (f x) ≡ w) → rows_of (length xs) w (flat_map f xs) ≡ map f xs
rows_of-flat_map f w [] each = refl
rows_of-flat_map f w (x ∷ xs) each = rw (take_prefix (f x) (flat_map f xs) w (each x), drop_prefix (f x) (flat_map f xs) w (each x)) (ap (λ rows. f x ∷ rows) (rows_of-flat_map f w xs each))

either_side : (P : ℤ → Type 0) (xs ys : List ℤ) (k : ℕ) → ((j : ℕ) → P (get_or xs j (pos 0))) → ((j : ℕ) → P (get_or ys j (pos 0))) → P (get_or (xs ++ ys) k (pos 0))
either_side P [] ys k left right = right k
either_side P (x ∷ xs) ys zero left right = left 0
either_side P (x ∷ xs) ys (suc k) left right = either_side P xs ys k (λ j. left (suc j)) right

pub each-flat_map : {A : Type 0} (P : ℤ → Type 0) (f : A → List ℤ) (xs : List A) → P (pos 0) → ((x : A) (j : ℕ) → P (get_or (f x) j (pos 0))) → (k : ℕ) → P (get_or (flat_map f xs) k (pos 0))
each-flat_map P f [] z each k = z
each-flat_map P f (x ∷ xs) z each k = either_side P (f x) (flat_map f xs) k (each x) (each-flat_map P f xs z each)

-- a property of the values of a function, and of 0, is a property of the items of the mapped list
pub each-map : {A : Type 0} (P : ℤ → Type 0) (f : A → ℤ) (xs : List A) → P (pos 0) → ((x : A) → P (f x)) → (k : ℕ) → P (get_or (map f xs) k (pos 0))
each-map P f [] z each k = z
each-map P f (x ∷ xs) z each zero = each x
each-map P f (x ∷ xs) z each (suc k) = each-map P f xs z each k

-- an entry of a submatrix
pub entry-submatrix : (m : Matrix) (rows columns : List ℕ) (i j : ℕ) → i < length rows → j < length columns → entry (submatrix m rows columns) i j ≡ entry m (get_or rows i 0) (get_or columns j 0)
entry-submatrix m rows columns i j hi hj =
    ap (λ row. get_or row j (pos 0)) (get_or-map (λ row. map (entry m row) columns) rows i 0 [] hi)
    ∙ get_or-map (entry m (get_or rows i 0)) columns j 0 (pos 0) hj

-- a property of 0 and of each entry of a matrix is a property of each entry of a submatrix
pub each-submatrix : (P : ℤ → Type 0) (m : Matrix) (rows columns : List ℕ) → P (pos 0) → ((row column : ℕ) → P (entry m row column))
    → (row column : ℕ) → P (entry (submatrix m rows columns) row column)
each-submatrix P m [] columns z each row column = z
each-submatrix P m (r ∷ rs) columns z each zero column = each-map P (entry m r) columns z (each r) column
each-submatrix P m (r ∷ rs) columns z each (suc row) column = each-submatrix P m rs columns z each row column

pub is_ternary-submatrix : (m : Matrix) (rows columns : List ℕ) → IsTernary m → IsTernary (submatrix m rows columns)
is_ternary-submatrix m rows columns is = record {
  rectangular = λ row h. ap length (get_or-map (λ r. map (entry m r) columns) rows row 0 [] (omega (arith, h, length-map rows (λ r. map (entry m r) columns)))) ∙ length-map columns (entry m (get_or rows row 0));
  small = each-submatrix IsEntry m rows columns zero_is_entry is.small;
}

pub is_matrix-submatrix : (m : Matrix) (rows columns : List ℕ) → IsMatrix m → length rows ≤ MAX_ROWS → length columns ≤ MAX_COLUMNS → IsMatrix (submatrix m rows columns)
is_matrix-submatrix m rows columns is few_rows few_columns = let part = is_ternary-submatrix m rows columns (record { rectangular = is.rectangular; small = is.small }) in record {
  rectangular = part.rectangular;
  small = part.small;
  height_in = omega (arith, few_rows, length-map rows (λ r. map (entry m r) columns));
  width_in = few_columns;
}

-- a column of the matrix is a row of the transposed matrix
pub row-transposed : (m : Matrix) (column : ℕ) → column < m.width → get_or (transposed m).rows column [] ≡ column_of m column
row-transposed m column h = get_or-map-range_with_len (column_of m) 0 m.width column column [] h (omega arith)

pub height-transposed : (m : Matrix) → height (transposed m) ≡ m.width
height-transposed m = length-map-range_with_len (column_of m) 0 m.width

get_or-column_of : (rows : List (List ℤ)) (row column : ℕ) → get_or (map (λ r. get_or r column (pos 0)) rows) row (pos 0) ≡ get_or (get_or rows row []) column (pos 0)
get_or-column_of [] row column = refl
get_or-column_of (r ∷ rows) zero column = refl
get_or-column_of (r ∷ rows) (suc row) column = get_or-column_of rows row column

pub entry-transposed_rectangular : (m : Matrix) (row column : ℕ) → IsRectangular m → entry (transposed m) column row ≡ entry m row column
entry-transposed_rectangular m row column rectangular = elim (cases_lt column m.width) [
  | inl inside ↦ ap (λ r. get_or r row (pos 0)) (row-transposed m column inside) ∙ get_or-column_of m.rows row column
  | inr outside ↦
      ap (λ r. get_or r row (pos 0)) (get_or_past (transposed m).rows column [] (omega (arith, height-transposed m)))
      ∙ sym (beyond (cases_lt row (height m)) outside)
]
  where
    beyond : (row < height m) ⊎ (height m ≤ row) → m.width ≤ column → entry m row column ≡ pos 0
    beyond (inl low) out = get_or_past (get_or m.rows row []) column (pos 0) (omega (arith, rectangular row low))
    beyond (inr high) out = ap (λ r. get_or r column (pos 0)) (get_or_past m.rows row [] high)

pub entry-transposed : (m : Matrix) (row column : ℕ) → IsMatrix m → entry (transposed m) column row ≡ entry m row column
entry-transposed m row column is = entry-transposed_rectangular m row column is.rectangular

pub is_ternary-transposed : (m : Matrix) → IsTernary m → IsTernary (transposed m)
is_ternary-transposed m is = record {
  rectangular = λ column h. ap length (row-transposed m column (omega (arith, h, height-transposed m))) ∙ length-map m.rows (λ r. get_or r column (pos 0));
  small = λ column row. subst IsEntry (sym (entry-transposed_rectangular m row column is.rectangular)) (is.small row column);
}

pub is_matrix-transposed : (m : Matrix) → IsMatrix m → IsMatrix (transposed m)
is_matrix-transposed m is = let of_transposed = is_ternary-transposed m (record { rectangular = is.rectangular; small = is.small }) in record {
  rectangular = of_transposed.rectangular;
  small = of_transposed.small;
  height_in = omega (arith, height-transposed m, is.width_in);
  width_in = is.height_in;
}

-- an increasing list of lines below a bound has at most `bound` lines
pub length-increasing : (lines : List ℕ) (bound : ℕ) → IsStrictlyIncreasing lines → AllBelow bound lines → length lines ≤ bound
length-increasing lines bound increasing below = omega (arith, increasing_short 0 bound lines (increases_in 0 bound lines increasing below (λ h. omega arith)) (omega arith))
