-- Cells of complete rows.
use Rattle.std.proofs.Common.{◌≡◌, ◌<◌, ◌≤◌, ◌+◌, ◌-◌, ◌*◌, ◌∙◌, ◌++◌, ◌*ℤ◌, ℕ, zero, suc, ℤ, pos, negsuc, neg_ℤ, Bool, List, [], ◌∷◌, true, false, map, length, take, drop, get_or, refl, ap, ap₂, sym, subst, arith, length-append, if◌then◌else◌, ◌==◌}
use Rattle.std.specs.List.{AllByRecursion}
use Rattle.std.proofs.lemmas.Int.{ints}
use Rattle.std.proofs.lemmas.List.{append-nil, append_assoc, length-map, map-append, take_more, take_all, drop_more, drop_all}
use Rattle.std.proofs.Math.Nat.{suc-mul, zero-mul}
use Rattle.std.proofs.Math.Seq.{take-append_seam, drop-append_seam}
use Rattle.cmr_base.specs.Matrix.{Matrix, height, entry, row_of, rows_of, IsEntry, IsMatrix}
use Rattle.cmr_base.proofs.Lists.{all-append, all_by_places}
use Rattle.cmr_base.specs.MatrixSums.{four_blocks, two_sum}
use Rattle.cmr_base.specs.Separations.{zeros}
use Rattle.cmr_base.proofs.FilledMatrices.{height-filled}
use Rattle.cmr_base.proofs.SmallEntries.{entry_at, negative_is_entry}
use Rattle.generate.specs.Generated.{circulant, circulant_sum, negated_rows}
use Rattle.generate.specs.Signs.{drawn_sign}

-- the rows, one after another
abbrev pub joined : List (List ℤ) → List ℤ
joined [] = []
joined (row ∷ rows) = row ++ joined rows

pub joined-append : (xs ys : List (List ℤ)) → joined (xs ++ ys) ≡ joined xs ++ joined ys
joined-append [] ys = refl
joined-append (x ∷ xs) ys = ap (λ (cells : List ℤ). x ++ cells) (joined-append xs ys) ∙ sym (append_assoc x (joined xs) (joined ys))

-- rows of one width with entries -1, 0 and 1
pub record IsRow (width : ℕ) (row : List ℤ) : Type 0 where
  pub long : length row ≡ width
  pub small : AllByRecursion IsEntry row

-- the cells of the rows, in a matrix of this width
pub record AreCells (rows : List (List ℤ)) (width : ℕ) (cells : List ℤ) : Type 0 where
  pub whole : length cells ≡ length rows * width
  pub small : (k : ℕ) → IsEntry (get_or cells k (pos 0))
  pub cut : rows_of (length rows) width cells ≡ rows

-- the rows of a given height and width, cut from the cells
pub record AreRows (height width : ℕ) (cells : List ℤ) (rows : List (List ℤ)) : Type 0 where
  pub whole : length cells ≡ height * width
  pub small : (k : ℕ) → IsEntry (get_or cells k (pos 0))
  pub cut : rows_of height width cells ≡ rows

-- ---- the cells of complete rows
small_joined : (width : ℕ) (rows : List (List ℤ)) → AllByRecursion (IsRow width) rows → AllByRecursion IsEntry (joined rows)
small_joined width [] all = all
small_joined width (row ∷ rows) all = all-append IsEntry row (joined rows) all.0.small (small_joined width rows all.1)

whole_joined : (width : ℕ) (rows : List (List ℤ)) → AllByRecursion (IsRow width) rows → length (joined rows) ≡ length rows * width
whole_joined width [] all = sym (zero-mul width)
whole_joined width (row ∷ rows) all = let e = all.0.long in omega (arith, length-append row (joined rows), e, whole_joined width rows all.1, suc-mul (length rows) width)

cut_joined : (width : ℕ) (rows : List (List ℤ)) → AllByRecursion (IsRow width) rows → rows_of (length rows) width (joined rows) ≡ rows
cut_joined width [] all = refl
cut_joined width (row ∷ rows) all =
    let prefix : take width (row ++ joined rows) ≡ row = subst (λ n. take n (row ++ joined rows) ≡ row) all.0.long (take-append_seam row (joined rows)) in
    let back : drop width (row ++ joined rows) ≡ joined rows = subst (λ n. drop n (row ++ joined rows) ≡ joined rows) all.0.long (drop-append_seam row (joined rows)) in
    rw (prefix, back) (ap (λ others. row ∷ others) (cut_joined width rows all.1))

pub are_cells : (width : ℕ) (rows : List (List ℤ)) → AllByRecursion (IsRow width) rows → AreCells rows width (joined rows)
are_cells width rows all = record { whole = whole_joined width rows all; small = entry_at (joined rows) (small_joined width rows all); cut = cut_joined width rows all }

-- ---- rows of a matrix
pub matrix_rows : (m : Matrix) → IsMatrix m → AllByRecursion (IsRow m.width) m.rows
matrix_rows m is = all_by_places (IsRow m.width) m.rows [] (λ k h. record { long = is.rectangular k h; small = all_by_places IsEntry (row_of m k) (pos 0) (λ j l. is.small k j) })

-- ---- sums of circulants
height-sum : (m n : Matrix) → height (two_sum m n) ≡ height m + (height n - 1)
height-sum m n = height-filled (height m + (height n - 1)) ((m.width - 1) + n.width)
    (four_blocks (height m) (m.width - 1) 1 0 (entry m) (λ r c. entry m r (m.width - 1) *ℤ entry n 0 c) zeros (entry n))

pub height-circulant_sum : (k : ℕ) → height (circulant_sum (suc k)) ≡ 4 * k + 5
height-circulant_sum zero = refl
height-circulant_sum (suc k) = height-sum (circulant_sum (suc k)) circulant ∙ (let e = height-circulant_sum k in omega (arith, e))

pub width-circulant_sum : (k : ℕ) → (circulant_sum (suc k)).width ≡ 4 * k + 5
width-circulant_sum zero = refl
width-circulant_sum (suc k) = let e = width-circulant_sum k in omega (arith, e)

pub sum_height : (k : ℕ) → 1 ≤ k → height (circulant_sum k) ≡ 4 * k + 1
sum_height zero h = absurd (omega (arith, h))
sum_height (suc k) h = height-circulant_sum k ∙ omega arith

pub sum_width : (k : ℕ) → 1 ≤ k → (circulant_sum k).width ≡ 4 * k + 1
sum_width zero h = absurd (omega (arith, h))
sum_width (suc k) h = width-circulant_sum k ∙ omega arith

-- ---- negated rows
pub one_times : (row : List ℤ) → map (λ z. pos 1 *ℤ z) row ≡ row
one_times [] = refl
one_times (x ∷ xs) = ap₂ (λ y ys. y ∷ ys) (omega (arith, ints)) (one_times xs)

minus_times : (row : List ℤ) → map (λ z. negsuc 0 *ℤ z) row ≡ map neg_ℤ row
minus_times [] = refl
minus_times (x ∷ xs) = ap₂ (λ y ys. y ∷ ys) (omega (arith, ints)) (minus_times xs)

-- the row multiplied by a sign
abbrev pub times : ℤ → List ℤ → List ℤ
times s row = map (λ z. s *ℤ z) row

-- one more entry of the row
pub one_more : (s : ℤ) (row : List ℤ) (k : ℕ) (old cells new : List ℤ) (value : ℤ) → k < length row → cells ≡ old ++ times s (take k row) → value ≡ s *ℤ get_or row k (pos 0)
    → new ≡ cells ++ value ∷ [] → new ≡ old ++ times s (take (k + 1) row)
one_more s row k old cells new value h so_far e pushed =
    pushed ∙ ap₂ (λ (xs : List ℤ) (v : ℤ). xs ++ v ∷ []) so_far e ∙ append_assoc old (times s (take k row)) ((s *ℤ get_or row k (pos 0)) ∷ [])
    ∙ ap (λ (xs : List ℤ). old ++ xs) (sym (ap (times s) (take_more row k (pos 0) h) ∙ map-append (λ z. s *ℤ z) (take k row) (get_or row k (pos 0) ∷ [])))

-- all entries of the row
pub all_taken : (s : ℤ) (row : List ℤ) (k : ℕ) (old cells : List ℤ) → length row ≤ k → cells ≡ old ++ times s (take k row) → cells ≡ old ++ times s row
all_taken s row k old cells h so_far = so_far ∙ ap (λ (xs : List ℤ). old ++ times s xs) (take_all k row h)

sign_times : (n : ℕ) (row : List ℤ) → times (drawn_sign n) row ≡ (if n == 1 then map neg_ℤ row else row)
sign_times n row = go (n == 1)
  where
    go : (b : Bool) → times (if b then negsuc 0 else pos 1) row ≡ (if b then map neg_ℤ row else row)
    go true = minus_times row
    go false = one_times row

pub negated_row : (rows : List (List ℤ)) (signs : List ℕ) (i : ℕ) (old cells : List ℤ) → i < length rows → length signs ≡ length rows
    → cells ++ joined (negated_rows (drop i rows) (drop i signs)) ≡ old
    → (cells ++ times (drawn_sign (get_or signs i 0)) (get_or rows i [])) ++ joined (negated_rows (drop (i + 1) rows) (drop (i + 1) signs)) ≡ old
negated_row rows signs i old cells h e before =
    append_assoc cells (times (drawn_sign (get_or signs i 0)) (get_or rows i [])) (joined (negated_rows (drop (i + 1) rows) (drop (i + 1) signs)))
    ∙ ap (λ (row : List ℤ). cells ++ (row ++ joined (negated_rows (drop (i + 1) rows) (drop (i + 1) signs)))) (sign_times (get_or signs i 0) (get_or rows i []))
    ∙ ap₂ (λ (rs : List (List ℤ)) (ss : List ℕ). cells ++ joined (negated_rows rs ss)) (sym (drop_more rows i [] h)) (sym (drop_more signs i 0 (omega (arith, h, e))))
    ∙ before

pub negated_all : (rows : List (List ℤ)) (signs : List ℕ) (i : ℕ) (old cells : List ℤ) → length rows ≤ i → cells ++ joined (negated_rows (drop i rows) (drop i signs)) ≡ old → cells ≡ old
negated_all rows signs i old cells h before =
    sym (append-nil cells) ∙ ap (λ (rs : List (List ℤ)). cells ++ joined (negated_rows rs (drop i signs))) (sym (drop_all i rows h)) ∙ before

negated_is_row : (w : ℕ) (b : Bool) (row : List ℤ) → IsRow w row → IsRow w (if b then map neg_ℤ row else row)
negated_is_row w false row is = is
negated_is_row w true row is = record { long = length-map row neg_ℤ ∙ is.long; small = all_negated row is.small }
  where
    all_negated : (xs : List ℤ) → AllByRecursion IsEntry xs → AllByRecursion IsEntry (map neg_ℤ xs)
    all_negated [] all = all
    all_negated (x ∷ xs) all = (negative_is_entry x all.0, all_negated xs all.1)

pub all_negated_rows : (w : ℕ) (rows : List (List ℤ)) (signs : List ℕ) → AllByRecursion (IsRow w) rows → AllByRecursion (IsRow w) (negated_rows rows signs)
all_negated_rows w [] signs all = all
all_negated_rows w (row ∷ rows) [] all = (all.0, all_negated_rows w rows [] all.1)
all_negated_rows w (row ∷ rows) (s ∷ signs) all = (negated_is_row w (s == 1) row all.0, all_negated_rows w rows signs all.1)

pub length-negated_rows : (rows : List (List ℤ)) (signs : List ℕ) → length (negated_rows rows signs) ≡ length rows
length-negated_rows [] signs = refl
length-negated_rows (row ∷ rows) [] = ap suc (length-negated_rows rows [])
length-negated_rows (row ∷ rows) (s ∷ signs) = ap suc (length-negated_rows rows signs)

-- ---- all cells
pub all_cells : (width : ℕ) (rows : List (List ℤ)) (height : ℕ) (cells : List ℤ) → cells ≡ joined rows → length rows ≡ height → AllByRecursion (IsRow width) rows → AreRows height width cells rows
all_cells width rows height cells e count all =
    let made = are_cells width rows all in
    record {
      whole = ap (λ (xs : List ℤ). length xs) e ∙ made.whole ∙ ap (λ (n : ℕ). n * width) count;
      small = λ k. subst (λ (xs : List ℤ). IsEntry (get_or xs k (pos 0))) (sym e) (made.small k);
      cut = ap₂ (λ (n : ℕ) (xs : List ℤ). rows_of n width xs) (sym count) e ∙ made.cut;
    }

pub negated_cells : (m : Matrix) (signs : List ℕ) (i : ℕ) (cells : List ℤ) → IsMatrix m → height m ≤ i
    → cells ++ joined (negated_rows (drop i m.rows) (drop i signs)) ≡ joined (negated_rows m.rows signs)
    → AreRows (height m) m.width cells (negated_rows m.rows signs)
negated_cells m signs i cells is h before =
    all_cells m.width (negated_rows m.rows signs) (height m) cells (negated_all m.rows signs i _ cells h before) (length-negated_rows m.rows signs) (all_negated_rows m.width m.rows signs (matrix_rows m is))

pub of_size : (height width : ℕ) (cells : List ℤ) (rows : List (List ℤ)) (h w : ℕ) → h ≡ height → w ≡ width → AreRows height width cells rows → AreRows h w cells rows
of_size height width cells rows h w e f made = subst (λ (a : ℕ). AreRows a w cells rows) (sym e) (subst (λ (b : ℕ). AreRows height b cells rows) (sym f) made)
