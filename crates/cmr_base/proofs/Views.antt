-- Facts about a matrix from the fields of its value.
use Rattle.std.proofs.Common.{◌≡◌, ◌<◌, ◌*◌, ◌≤◌, ◌+◌, ◌/◌, ◌∙◌, ℕ, zero, suc, ◌∷◌, Bool, true, false, ℤ, pos, [], List, map, length, get_or, take, drop, refl, ap, ap₂, sym, subst, arith}
use Rattle.std.specs.List.{flat_map}
use Rattle.std.proofs.lemmas.List.FromFn.{get_or-map-range_with_len, length-map-range_with_len}
use Rattle.std.proofs.lemmas.Nat.{mul-add-lt}
use Rattle.std.proofs.Math.Nat.{mul-le-mul_right}
use Rattle.std.proofs.lemmas.Int.{ints}
use Rattle.cmr_base.specs.declared.limits.TheConstants.{MAX_COLUMNS, MAX_ROWS}
use Rattle.cmr_base.specs.declared.matrix.Matrix.TheInside.{Inside}
use Rattle.cmr_base.specs.LineSets.{first_lines}
use Rattle.cmr_base.specs.Matrix.{Matrix, height, row_of, entry, IsMatrix, IsEntry, is_nonzero, rows_of}
use Rattle.cmr_base.specs.MatrixLayout.{matrix_of, plane_entry, rows_in, value_of, IsLaidOut}
use Rattle.cmr_base.specs.Planes.{is_minus, words_for, words_of}
use Rattle.cmr_base.proofs.Parts.{each-map}
use Rattle.cmr_base.proofs.PlaneWords.{length-rows, length-words_of, row_at, rows-in_planes}
use Rattle.cmr_base.proofs.Rows.{length-rows_of, length-row, each-rows_of}

-- the rows of the planes, one by one
abbrev pub made_row : Inside → ℕ → List ℤ
made_row a row = map (plane_entry (words_for a.columns) a.support.items a.minus.items row) (first_lines a.columns)

pub height_is : (a : Inside) (m : Matrix) → matrix_of a ≡ m → height m ≡ a.rows
height_is a m e = ap height (sym e) ∙ length-map-range_with_len (made_row a) 0 a.rows

pub width_is : (a : Inside) (m : Matrix) → matrix_of a ≡ m → m.width ≡ a.columns
width_is a m e = ap (λ (t : Matrix). t.width) (sym e)

made_at : (a : Inside) (row : ℕ) → row < a.rows → row_of (matrix_of a) row ≡ made_row a row
made_at a row h = get_or-map-range_with_len (made_row a) 0 a.rows row row [] h (omega arith)

pub entry_is : (a : Inside) (m : Matrix) (r c : ℕ) → matrix_of a ≡ m → r < height m → c < m.width → entry m r c ≡ plane_entry (words_for a.columns) a.support.items a.minus.items r c
entry_is a m r c e hr hc =
    ap (λ (t : Matrix). entry t r c) (sym e)
    ∙ ap (λ (row : List ℤ). get_or row c (pos 0)) (made_at a r (omega (arith, height_is a m e)))
    ∙ get_or-map-range_with_len (plane_entry (words_for a.columns) a.support.items a.minus.items r) 0 a.columns c c (pos 0) (omega (arith, width_is a m e)) (omega arith)

pub small_value : (s n : Bool) → IsEntry (value_of s n)
small_value false n = record { low = omega (arith, ints); high = omega (arith, ints) }
small_value true false = record { low = omega (arith, ints); high = omega (arith, ints) }
small_value true true = record { low = omega (arith, ints); high = omega (arith, ints) }

pub small_rows : (f : ℕ → ℕ → ℤ) (columns rows : List ℕ) → ((r c : ℕ) → IsEntry (f r c)) → (r c : ℕ) → IsEntry (get_or (get_or (map (λ row. map (f row) columns) rows) r []) c (pos 0))
small_rows f columns [] each r c = record { low = omega (arith, ints); high = omega (arith, ints) }
small_rows f columns (x ∷ rows) each zero c = each-map IsEntry (f x) columns (record { low = omega (arith, ints); high = omega (arith, ints) }) (each x) c
small_rows f columns (x ∷ rows) each (suc r) c = small_rows f columns rows each r c

pub is_matrix : (a : Inside) (m : Matrix) → matrix_of a ≡ m → IsLaidOut a → IsMatrix m
is_matrix a m e laid = subst IsMatrix e (record {
  rectangular = λ row h. ap length (made_at a row (omega (arith, h, height_is a (matrix_of a) refl))) ∙ length-map-range_with_len (plane_entry (words_for a.columns) a.support.items a.minus.items row) 0 a.columns;
  small = small_rows (plane_entry (words_for a.columns) a.support.items a.minus.items) (first_lines a.columns) (first_lines a.rows) (λ r c. small_value _ _);
  height_in = omega (arith, laid.rows_few, height_is a (matrix_of a) refl);
  width_in = laid.columns_few;
})

-- the planes are the planes of the matrix
pub record ArePlanes (m : Matrix) (support minus : List ℕ) : Type 0 where
  pub support_is : support ≡ flat_map (words_of (words_for m.width) is_nonzero) m.rows
  pub minus_is : minus ≡ flat_map (words_of (words_for m.width) is_minus) m.rows

pub are_planes : (a : Inside) (m : Matrix) → matrix_of a ≡ m → IsLaidOut a → ArePlanes m a.support.items a.minus.items
are_planes a m e laid = subst (λ (t : Matrix). ArePlanes t a.support.items a.minus.items) e (record { support_is = laid.support_is; minus_is = laid.minus_is })

pub length-plane : (m : Matrix) (test : ℤ → Bool) (plane : List ℕ) → plane ≡ flat_map (words_of (words_for m.width) test) m.rows → length plane ≡ height m * words_for m.width
length-plane m test plane is = ap length is ∙ length-rows (words_of (words_for m.width) test) (words_for m.width) m.rows (length-words_of (words_for m.width) test)

-- the word of an entry is in a plane
pub place_in : (a : Inside) (m : Matrix) (test : ℤ → Bool) (plane : List ℕ) (r c : ℕ) → matrix_of a ≡ m
    → plane ≡ flat_map (words_of (words_for m.width) test) m.rows → r < height m → c < m.width → r * words_for a.columns + c / 64 < length plane
place_in a m test plane r c e is hr hc =
    let wide = width_is a m e in
    let inside : c / 64 < words_for m.width = omega arith in
    subst (λ w. r * words_for w + c / 64 < length plane) wide
    (omega (arith, length-plane m test plane is, mul-add-lt r (words_for m.width) (c / 64) (height m) hr inside))

-- the words of a row in a plane
pub row_inside : (m : Matrix) (test : ℤ → Bool) (plane : List ℕ) (row words : ℕ) → plane ≡ flat_map (words_of (words_for m.width) test) m.rows
    → words ≡ words_for m.width → row < height m → row * words + words ≤ length plane
row_inside m test plane row words is e h =
    let all : (row + 1) * words ≤ height m * words = mul-le-mul_right words (omega arith) in
    omega (arith, all, length-plane m test plane is, ap (λ n. height m * n) e)

pub row_is : (m : Matrix) (test : ℤ → Bool) (plane : List ℕ) (row words : ℕ) → plane ≡ flat_map (words_of (words_for m.width) test) m.rows → words ≡ words_for m.width → row < height m
    → take words (drop (row * words) plane) ≡ words_of (words_for m.width) test (row_of m row)
row_is m test plane row words is e h =
    ap₂ (λ (n : ℕ) (ws : List ℕ). take n (drop (row * n) ws)) e is ∙ row_at (words_of (words_for m.width) test) (words_for m.width) m.rows row (length-words_of (words_for m.width) test) h

-- values that are made of the planes of a matrix
pub record IsOf (m : Matrix) (rows columns : ℕ) (support minus : List ℕ) : Type 0 where
  pub same : record { rows = rows_in rows columns support minus; width = columns } ≡ m
  pub support_is : support ≡ flat_map (words_of (words_for columns) is_nonzero) (rows_in rows columns support minus)
  pub minus_is : minus ≡ flat_map (words_of (words_for columns) is_minus) (rows_in rows columns support minus)

pub of_planes : (m : Matrix) (rows columns : ℕ) (support minus : List ℕ) → IsMatrix m → height m ≡ rows → m.width ≡ columns
    → support ≡ flat_map (words_of (words_for columns) is_nonzero) m.rows → minus ≡ flat_map (words_of (words_for columns) is_minus) m.rows
    → IsOf m rows columns support minus
of_planes m rows columns support minus is high wide s_is m_is =
    let e : rows_in rows columns support minus ≡ m.rows = rows-in_planes m rows columns support minus is high wide s_is m_is in
    record {
      same = ap (λ (rs : List (List ℤ)). record { rows = rs; width = columns }) e ∙ ap (λ (w : ℕ). record { rows = m.rows; width = w }) (sym wide);
      support_is = s_is ∙ ap (flat_map (words_of (words_for columns) is_nonzero)) (sym e);
      minus_is = m_is ∙ ap (flat_map (words_of (words_for columns) is_minus)) (sym e);
    }

-- cells form a matrix
pub is_matrix-cells : (rows columns : ℕ) (cells : List ℤ) → rows ≤ MAX_ROWS → columns ≤ MAX_COLUMNS → length cells ≡ rows * columns → ((k : ℕ) → IsEntry (get_or cells k (pos 0))) → IsMatrix (record { rows = rows_of rows columns cells; width = columns })
is_matrix-cells rows columns cells few_rows few_columns whole small = record {
  rectangular = λ row h. length-row rows columns cells row whole (omega (arith, length-rows_of rows columns cells));
  small = each-rows_of IsEntry rows columns cells (record { low = omega (arith, ints); high = omega (arith, ints) }) small;
  height_in = omega (arith, few_rows, length-rows_of rows columns cells);
  width_in = few_columns;
}
