-- Positions of a matrix, row by row, and the values that triples give them.
use Rattle.std.proofs.Common.{◌≡◌, ◌<◌, ◌≤◌, ◌≢◌, ◌+◌, ◌-◌, ◌*◌, ◌/◌, ◌%◌, ◌∙◌, inl, inr, ℕ, zero, suc, ℤ, pos, Bool, true, false, cond, ◌||◌, ◌&&◌, eqb, List, [], ◌∷◌, ◌++◌, length, get_or, set, refl, ap, sym, arith, length-set}
use Rattle.std.specs.Prelude.{map, replicate}
use Rattle.std.specs.List.{range_with_len}
use Rattle.std.proofs.lemmas.Int.{ints}
use Rattle.std.proofs.lemmas.Bool.{cases_eq}
use Rattle.std.proofs.lemmas.Bool.Decides.{nat_tests}
use Rattle.std.proofs.lemmas.List.{ext_get_or, get_or-set_same, get_or-set_other, get_or-replicate, length-replicate, length-map}
use Rattle.std.proofs.lemmas.List.Folds.{list_any-append}
use Rattle.std.proofs.lemmas.List.FromFn.{length-range_with_len, get_or-map-range_with_len}
use Rattle.std.proofs.lemmas.Nat.{mul-add-lt, div-mul-add, mod-mul-add}
use Rattle.cmr_base.proofs.Rows.{length-rows_of, length-row, entry-rows_of}
use Rattle.cmr_base.proofs.Booleans.{or_false, or_true}
use Rattle.cmr_base.specs.Matrix.{Matrix, IsEntry, rows_of}
use Rattle.matrix_text.specs.Sparse.{Triple, names, is_place_named, value_at, matrix_of_triples}

-- the index of a position determines its row and its column
pub same_place : (width row column r c : ℕ) → column < width → c < width → row * width + column ≡ r * width + c → (row ≡ r) × (column ≡ c)
same_place width row column r c hc hd e = (
  sym (div-mul-add row width column hc) ∙ ap (λ k. k / width) e ∙ div-mul-add r width c hd,
  sym (mod-mul-add row width column hc) ∙ ap (λ k. k % width) e ∙ mod-mul-add r width c hd,
)

-- the flags are true at the positions that the triples name, and the cells are the values of the triples
pub record AreHeld (height width : ℕ) (taken : List Bool) (cells : List ℤ) (triples : List Triple) : Type 0 where
  pub taken_whole : length taken ≡ height * width
  pub cells_whole : length cells ≡ height * width
  pub marks : (row column : ℕ) → row < height → column < width → get_or taken (row * width + column) false ≡ is_place_named triples (row + 1) (column + 1)
  pub values : (row column : ℕ) → row < height → column < width → get_or cells (row * width + column) (pos 0) ≡ value_at triples (row + 1) (column + 1)
  pub small : (k : ℕ) → IsEntry (get_or cells k (pos 0))

-- the taken positions of a matrix are the named positions
abbrev pub AreTaken : ℕ → ℕ → (ℕ → ℕ → Bool) → List Triple → Type 0
AreTaken height width is_taken triples = (row column : ℕ) → 0 < row → row ≤ height → 0 < column → column ≤ width → is_taken row column ≡ is_place_named triples row column

pub held_marks : (height width : ℕ) (taken : List Bool) (cells : List ℤ) (triples : List Triple) → AreHeld height width taken cells triples
    → AreTaken height width (λ row column. get_or taken ((row - 1) * width + (column - 1)) false) triples
held_marks height width taken cells triples held row column row_above row_in column_above column_in =
    let r : row - 1 + 1 ≡ row = omega arith in
    let k : column - 1 + 1 ≡ column = omega arith in
    held.marks (row - 1) (column - 1) (omega arith) (omega arith) ∙ ap (λ n. is_place_named triples n (column - 1 + 1)) r ∙ ap (is_place_named triples row) k

pub zero_small : IsEntry (pos 0)
zero_small = record { low = omega (arith, ints); high = omega (arith, ints) }

zeros_small : (n k : ℕ) → IsEntry (get_or (replicate n (pos 0)) k (pos 0))
zeros_small zero k = zero_small
zeros_small (suc n) zero = zero_small
zeros_small (suc n) (suc k) = zeros_small n k

pub none_held : (height width : ℕ) → AreHeld height width (replicate (height * width) false) (replicate (height * width) (pos 0)) []
none_held height width = record {
  taken_whole = length-replicate (height * width) false;
  cells_whole = length-replicate (height * width) (pos 0);
  marks = λ row column hr hc. get_or-replicate (height * width) (row * width + column) false false (inside row column hr hc);
  values = λ row column hr hc. get_or-replicate (height * width) (row * width + column) (pos 0) (pos 0) (inside row column hr hc);
  small = zeros_small (height * width);
}
  where
    inside : (row column : ℕ) → row < height → column < width → row * width + column < height * width
    inside row column hr hc = omega (arith, mul-add-lt row width column height hr hc)

pub value_unnamed : (triples : List Triple) (row column : ℕ) → is_place_named triples row column ≡ false → value_at triples row column ≡ pos 0
value_unnamed [] row column h = refl
value_unnamed (t ∷ triples) row column h =
    let first : names row column t ≡ false = grind (arith, h) in
    let others : is_place_named triples row column ≡ false = grind (arith, h) in
    rw first (value_unnamed triples row column others)

pub value_other : (triples : List Triple) (t : Triple) (row column : ℕ) → names row column t ≡ false → value_at (triples ++ t ∷ []) row column ≡ value_at triples row column
value_other [] t row column h = rw h refl
value_other (x ∷ triples) t row column h = ap (λ (z : ℤ). cond (names row column x) x.value z) (value_other triples t row column h)

pub value_new : (triples : List Triple) (t : Triple) (row column : ℕ) → is_place_named triples row column ≡ false → names row column t ≡ true → value_at (triples ++ t ∷ []) row column ≡ t.value
value_new [] t row column h named = rw named refl
value_new (x ∷ triples) t row column h named =
    let first : names row column x ≡ false = grind (arith, h) in
    let others : is_place_named triples row column ≡ false = grind (arith, h) in
    rw first (value_new triples t row column others named)

small_set : (cells : List ℤ) (place : ℕ) (z : ℤ) → IsEntry z → ((k : ℕ) → IsEntry (get_or cells k (pos 0))) → (k : ℕ) → IsEntry (get_or (set cells place z) k (pos 0))
small_set [] place z h small k = zero_small
small_set (x ∷ cells) zero z h small zero = h
small_set (x ∷ cells) zero z h small (suc k) = small (suc k)
small_set (x ∷ cells) (suc place) z h small zero = small 0
small_set (x ∷ cells) (suc place) z h small (suc k) = small_set cells place z h (λ j. small (suc j)) k

-- one more triple at a position that was not named
module _ (height width : ℕ) (taken : List Bool) (cells : List ℤ) (triples : List Triple) (t : Triple) (row_above : 0 < t.row) (row_in : t.row ≤ height) (column_above : 0 < t.column) (column_in : t.column ≤ width) (held : AreHeld height width taken cells triples) where
  inside : (t.row - 1) * width + (t.column - 1) < height * width
  inside = omega (arith, mul-add-lt (t.row - 1) width (t.column - 1) height (omega arith) (omega arith))

  here : (row column : ℕ) → column < width → row * width + column ≡ (t.row - 1) * width + (t.column - 1) → names (row + 1) (column + 1) t ≡ true
  here row column hc e =
      let same = same_place width row column (t.row - 1) (t.column - 1) hc (omega arith) e in
      let row_is : t.row ≡ row + 1 = omega (arith, same.0) in
      let column_is : t.column ≡ column + 1 = omega (arith, same.1) in
      grind (arith, nat_tests)

  elsewhere : (row column : ℕ) → row * width + column ≢ (t.row - 1) * width + (t.column - 1) → names (row + 1) (column + 1) t ≡ false
  elsewhere row column ne = go (eqb t.row (row + 1)) (eqb t.column (column + 1)) refl refl
    where
      go : (r c : Bool) → eqb t.row (row + 1) ≡ r → eqb t.column (column + 1) ≡ c → (r && c) ≡ false
      go false c er ec = refl
      go true false er ec = refl
      go true true er ec =
          let row_is : t.row - 1 ≡ row = grind (arith, nat_tests) in
          let column_is : t.column - 1 ≡ column = grind (arith, nat_tests) in
          absurd (ne (sym (ap (λ (k : ℕ). k * width + (t.column - 1)) row_is ∙ ap (λ (k : ℕ). row * width + k) column_is)))

  new_mark : (row column : ℕ) → row < height → column < width
      → get_or (set taken ((t.row - 1) * width + (t.column - 1)) true) (row * width + column) false ≡ is_place_named (triples ++ t ∷ []) (row + 1) (column + 1)
  new_mark row column hr hc = elim (cases_eq (row * width + column) ((t.row - 1) * width + (t.column - 1))) [
    | inl e ↦
        ap (λ (k : ℕ). get_or (set taken ((t.row - 1) * width + (t.column - 1)) true) k false) e
        ∙ get_or-set_same taken ((t.row - 1) * width + (t.column - 1)) true false (omega (arith, held.taken_whole, inside))
        ∙ sym (list_any-append (names (row + 1) (column + 1)) triples (t ∷ []) ∙ ap (λ (b : Bool). is_place_named triples (row + 1) (column + 1) || (b || false)) (here row column hc e) ∙ or_true (is_place_named triples (row + 1) (column + 1)))
    | inr ne ↦
        get_or-set_other taken ((t.row - 1) * width + (t.column - 1)) (row * width + column) true false ne
        ∙ held.marks row column hr hc
        ∙ sym (list_any-append (names (row + 1) (column + 1)) triples (t ∷ []) ∙ ap (λ (b : Bool). is_place_named triples (row + 1) (column + 1) || (b || false)) (elsewhere row column ne) ∙ or_false (is_place_named triples (row + 1) (column + 1)))
  ]

  new_value : is_place_named triples t.row t.column ≡ false → (row column : ℕ) → row < height → column < width
      → get_or (set cells ((t.row - 1) * width + (t.column - 1)) t.value) (row * width + column) (pos 0) ≡ value_at (triples ++ t ∷ []) (row + 1) (column + 1)
  new_value new row column hr hc = elim (cases_eq (row * width + column) ((t.row - 1) * width + (t.column - 1))) [
    | inl e ↦
        let same = same_place width row column (t.row - 1) (t.column - 1) hc (omega arith) e in
        let row_is : row + 1 ≡ t.row = omega (arith, same.0) in
        let column_is : column + 1 ≡ t.column = omega (arith, same.1) in
        ap (λ (k : ℕ). get_or (set cells ((t.row - 1) * width + (t.column - 1)) t.value) k (pos 0)) e
        ∙ get_or-set_same cells ((t.row - 1) * width + (t.column - 1)) t.value (pos 0) (omega (arith, held.cells_whole, inside))
        ∙ sym (value_new triples t (row + 1) (column + 1) (rw (row_is, column_is) new) (here row column hc e))
    | inr ne ↦
        get_or-set_other cells ((t.row - 1) * width + (t.column - 1)) (row * width + column) t.value (pos 0) ne
        ∙ held.values row column hr hc
        ∙ sym (value_other triples t (row + 1) (column + 1) (elsewhere row column ne))
  ]

  pub one_more : IsEntry t.value → is_place_named triples t.row t.column ≡ false
      → AreHeld height width (set taken ((t.row - 1) * width + (t.column - 1)) true) (set cells ((t.row - 1) * width + (t.column - 1)) t.value) (triples ++ t ∷ [])
  one_more small new = record {
    taken_whole = length-set taken ((t.row - 1) * width + (t.column - 1)) true ∙ held.taken_whole;
    cells_whole = length-set cells ((t.row - 1) * width + (t.column - 1)) t.value ∙ held.cells_whole;
    marks = new_mark;
    values = new_value new;
    small = small_set cells ((t.row - 1) * width + (t.column - 1)) t.value small held.small;
  }

-- rows as a table of their entries
pub table_of : (height width : ℕ) (rows : List (List ℤ)) (f : ℕ → ℕ → ℤ) → length rows ≡ height → ((row : ℕ) → row < height → length (get_or rows row []) ≡ width)
    → ((row column : ℕ) → row < height → column < width → get_or (get_or rows row []) column (pos 0) ≡ f (row + 1) (column + 1))
    → rows ≡ map (λ row. map (f row) (range_with_len 1 width)) (range_with_len 1 height)
table_of height width rows f high wide at = ext_get_or [] rows (map (λ row. map (f row) (range_with_len 1 width)) (range_with_len 1 height)) (high ∙ sym (length-map (range_with_len 1 height) (λ (row : ℕ). map (f row) (range_with_len 1 width)) ∙ length-range_with_len 1 height)) (λ row h. let hr : row < height = omega arith in row_is row hr ∙ sym (get_or-map-range_with_len (λ (row : ℕ). map (f row) (range_with_len 1 width)) 1 height row (row + 1) [] hr (omega arith)))
  where
    row_is : (row : ℕ) → row < height → get_or rows row [] ≡ map (f (row + 1)) (range_with_len 1 width)
    row_is row hr =
        let len = wide row hr in
        ext_get_or (pos 0) (get_or rows row []) (map (f (row + 1)) (range_with_len 1 width)) (len ∙ sym (length-map (range_with_len 1 width) (f (row + 1)) ∙ length-range_with_len 1 width)) (λ column h. let hc : column < width = omega (arith, len) in at row column hr hc ∙ sym (get_or-map-range_with_len (f (row + 1)) 1 width column (column + 1) (pos 0) hc (omega arith)))

-- the rows of the cells are the matrix of the triples
pub held_matrix : (height width : ℕ) (taken : List Bool) (cells : List ℤ) (triples : List Triple) → AreHeld height width taken cells triples
    → ◌≡◌ {A = Matrix} (record { rows = rows_of height width cells; width = width }) (matrix_of_triples height width triples)
held_matrix height width taken cells triples held = ap (λ (rows : List (List ℤ)). record { rows = rows; width = width }) (table_of height width (rows_of height width cells) (value_at triples) (length-rows_of height width cells) (λ row hr. length-row height width cells row held.cells_whole hr) (λ row column hr hc. entry-rows_of height width cells row column (pos 0) hr hc ∙ held.values row column hr hc))
