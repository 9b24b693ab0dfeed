-- A submatrix of a submatrix is a submatrix on fewer lines, so that subsets inherit hereditary properties.
use Rattle.std.proofs.Common.{◌≡◌, ◌<◌, ◌≤◌, ◌+◌, ◌⊎◌, inl, inr, ◌∙◌, ℕ, zero, suc, ℤ, List, [], ◌∷◌, map, length, get_or, refl, ap, ap₂, subst, arith}
use Rattle.std.specs.List.Sorted.{IsStrictlyIncreasing}
use Rattle.std.proofs.lemmas.Bool.{cases_lt}
use Rattle.std.proofs.lemmas.List.{get_or-map, length-map}
use Rattle.std.proofs.lemmas.Simd.{map-map}
use Rattle.cmr_base.specs.Matrix.{Matrix, entry, IsTernary}
use Rattle.cmr_base.specs.LineSets.{submatrix}
use Rattle.cmr_base.specs.GreedySets.{IsHereditary}
use Rattle.cmr_base.specs.Members.{IsIn}
use Rattle.cmr_base.proofs.Members.{IsWithin}
use Rattle.cmr_base.proofs.ListsWithout.{IsPlaceOf, in-get_or, increasing_tail, head_below, place_of, place_is}
use Rattle.cmr_base.proofs.Parts.{entry-submatrix, is_ternary-submatrix}
use Rattle.cmr_base.proofs.GreedyLemmas.{IsInherited}

pub increasing_places : (xs : List ℕ) (i k : ℕ) → IsStrictlyIncreasing xs → i < k → k < length xs → get_or xs i 0 < get_or xs k 0
increasing_places [] i k increases l h = absurd (omega arith)
increasing_places (x ∷ xs) i zero increases l h = absurd (omega arith)
increasing_places (x ∷ xs) zero (suc k) increases l h = head_below x (get_or xs k 0) xs increases (in-get_or xs k (omega arith))
increasing_places (x ∷ xs) (suc i) (suc k) increases l h = increasing_places xs i k (increasing_tail x xs increases) (omega arith) (omega arith)

pub map_members : {A : Type 0} (f g : ℕ → A) (xs : List ℕ) → ((x : ℕ) → IsIn x xs → f x ≡ g x) → map f xs ≡ map g xs
map_members f g [] h = refl
map_members f g (x ∷ xs) h = ap₂ (λ y ys. y ∷ ys) (h x (inl refl)) (map_members f g xs (λ y i. h y (inr i)))

-- the indices of numbers in a list
abbrev pub places_of : List ℕ → List ℕ → List ℕ
places_of xs ys = map (λ x. place_of x ys) xs

place_at : (xs ys : List ℕ) (k : ℕ) → k < length xs → get_or (places_of xs ys) k 0 ≡ place_of (get_or xs k 0) ys
place_at xs ys k h = get_or-map (λ x. place_of x ys) xs k 0 0 h

pub places_in_range : (xs ys : List ℕ) → IsWithin xs ys → (k : ℕ) → k < length (places_of xs ys) → get_or (places_of xs ys) k 0 < length ys
places_in_range xs ys within k h =
    let l : k < length xs = omega (arith, h, length-map xs (λ x. place_of x ys)) in
    let p = place_is (get_or xs k 0) ys (within (get_or xs k 0) (in-get_or xs k l)) in
    let e = place_at xs ys k l in
    omega (arith, p.in_range, e)

pub places_increase : (xs ys : List ℕ) → IsStrictlyIncreasing xs → IsStrictlyIncreasing ys → IsWithin xs ys → IsStrictlyIncreasing (places_of xs ys)
places_increase xs ys x_increases y_increases within k h =
    let more : k + 1 < length xs = omega (arith, h, length-map xs (λ x. place_of x ys)) in
    let less : k < length xs = omega (arith, more) in
    let low = place_is (get_or xs k 0) ys (within (get_or xs k 0) (in-get_or xs k less)) in
    let high = place_is (get_or xs (k + 1) 0) ys (within (get_or xs (k + 1) 0) (in-get_or xs (k + 1) more)) in
    let above = x_increases k more in
    let first = place_at xs ys k less in
    let second = place_at xs ys (k + 1) more in
    go (cases_lt (place_of (get_or xs k 0) ys) (place_of (get_or xs (k + 1) 0) ys)) low high above first second
  where
    go : (place_of (get_or xs k 0) ys < place_of (get_or xs (k + 1) 0) ys) ⊎ (place_of (get_or xs (k + 1) 0) ys ≤ place_of (get_or xs k 0) ys)
        → IsPlaceOf (get_or xs k 0) ys (place_of (get_or xs k 0) ys) → IsPlaceOf (get_or xs (k + 1) 0) ys (place_of (get_or xs (k + 1) 0) ys) → get_or xs k 0 < get_or xs (k + 1) 0
        → get_or (places_of xs ys) k 0 ≡ place_of (get_or xs k 0) ys → get_or (places_of xs ys) (k + 1) 0 ≡ place_of (get_or xs (k + 1) 0) ys
        → get_or (places_of xs ys) k 0 < get_or (places_of xs ys) (k + 1) 0
    go (inl l) low high above first second = omega (arith, l, first, second)
    go (inr l) low high above first second = absurd (at_most (place_of (get_or xs (k + 1) 0) ys) (place_of (get_or xs k 0) ys) l low.in_range low.there high.there above)
      where
        at_most : (i j : ℕ) → i ≤ j → j < length ys → get_or ys j 0 ≡ get_or xs k 0 → get_or ys i 0 ≡ get_or xs (k + 1) 0 → get_or xs k 0 < get_or xs (k + 1) 0 → ⊥
        at_most i j l inside e f above = pick (cases_lt i j)
          where
            pick : (i < j) ⊎ (j ≤ i) → ⊥
            pick (inl m) = let r = increasing_places ys i j y_increases m inside in omega (arith, r, e, f, above)
            pick (inr m) = let q : i ≡ j = omega (arith, l, m) in let r = ap (λ (z : ℕ). get_or ys z 0) q in omega (arith, r, e, f, above)

module _ (m : Matrix) (rows columns rows' columns' : List ℕ) (row_within : IsWithin rows' rows) (column_within : IsWithin columns' columns) where
  pub submatrix-submatrix : submatrix (submatrix m rows columns) (places_of rows' rows) (places_of columns' columns) ≡ submatrix m rows' columns'
  submatrix-submatrix = ap₂ (λ (r : List (List ℤ)) (w : ℕ). record { rows = r; width = w }) all_rows (length-map columns' (λ y. place_of y columns))
    where
      here : (x y : ℕ) → IsIn x rows' → IsIn y columns' → entry (submatrix m rows columns) (place_of x rows) (place_of y columns) ≡ entry m x y
      here x y i j =
          let p = place_is x rows (row_within x i) in
          let q = place_is y columns (column_within y j) in
          entry-submatrix m rows columns (place_of x rows) (place_of y columns) p.in_range q.in_range ∙ ap₂ (entry m) p.there q.there

      one_row : (x : ℕ) → IsIn x rows' → map (entry (submatrix m rows columns) (place_of x rows)) (places_of columns' columns) ≡ map (entry m x) columns'
      one_row x i = map-map (entry (submatrix m rows columns) (place_of x rows)) (λ y. place_of y columns) columns'
          ∙ map_members (λ y. entry (submatrix m rows columns) (place_of x rows) (place_of y columns)) (entry m x) columns' (λ y j. here x y i j)

      all_rows : map (λ p. map (entry (submatrix m rows columns) p) (places_of columns' columns)) (places_of rows' rows) ≡ map (λ x. map (entry m x) columns') rows'
      all_rows = map-map (λ p. map (entry (submatrix m rows columns) p) (places_of columns' columns)) (λ x. place_of x rows) rows'
          ∙ map_members (λ x. map (entry (submatrix m rows columns) (place_of x rows)) (places_of columns' columns)) (λ x. map (entry m x) columns') rows' one_row

pub inherited_from_hereditary : (P : Matrix → Type 0) → IsHereditary P → (m : Matrix) → IsTernary m → IsInherited P m
inherited_from_hereditary P hereditary m is rows columns rows' columns' r c r' c' row_within column_within p =
    subst P (submatrix-submatrix m rows columns rows' columns' row_within column_within)
    (hereditary (submatrix m rows columns) (is_ternary-submatrix m rows columns is) (places_of rows' rows) (places_of columns' columns)
    (record {
      increasing = places_increase rows' rows r' r row_within;
      in_range = λ k h. let l = places_in_range rows' rows row_within k h in omega (arith, l, length-map rows (λ row. map (entry m row) columns));
    })
    (record { increasing = places_increase columns' columns c' c column_within; in_range = places_in_range columns' columns column_within })
    p)
