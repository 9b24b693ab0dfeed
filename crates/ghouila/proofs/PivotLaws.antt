-- The properties that the pivot of a whole matrix keeps.
use Rattle.std.proofs.Common.{◌≡◌, ◌≢◌, ◌<◌, ◌↔◌, ◌⊎◌, inl, inr, ◌∙◌, ℕ, Bool, true, false, ℤ, pos, neg_ℤ, ◌*ℤ◌, ◌-ℤ◌, List, [], ◌∷◌, map, get_or, cond, not, eqb, ◌≤◌, eqb-true, refl, ap, sym, subst, arith}
use mathlib.Core.Path.{ap₂}
use Rattle.std.specs.List.{AllByRecursion}
use Rattle.std.specs.List.Sorted.{IsStrictlyIncreasing}
use Rattle.std.proofs.lemmas.List.{get_or-map, get_or_past, length-map}
use Rattle.std.proofs.lemmas.List.FromFn.{fill_by_all, length-range_with_len}
use Rattle.std.proofs.lemmas.Bool.{cases_eq, cases_lt, eqb-false}
use Rattle.cmr_base.specs.Matrix.{Matrix, height, row_of, entry, IsEntry, HasTernaryEntries, IsRectangular}
use Rattle.cmr_base.specs.LineSets.{first_lines, without}
use Rattle.cmr_base.specs.Members.{IsIn, IsDistinct}
use Rattle.cmr_base.specs.MatrixSums.{filled}
use Rattle.cmr_base.specs.Signing.{IsSign}
use Rattle.cmr_base.specs.Sums.{sum_over, IsEven, IsOdd}
use Rattle.cmr_base.specs.Violator.{IsViolator, HasNoViolator}
use Rattle.cmr_base.proofs.Booleans.{true_is_false}
use Rattle.cmr_base.proofs.FilledCells.{entry-past}
use Rattle.cmr_base.proofs.FilledMatrices.{height-filled, entry-filled}
use Rattle.cmr_base.proofs.Integers.{sums, products, mul_assoc, one-mul}
use Rattle.cmr_base.proofs.Lists.{HasOneMore, one_more_first, IsJoined, joined_later, all_weaker}
use Rattle.cmr_base.proofs.ListsWithout.{in_without, without_in, without_increases, increasing_distinct}
use Rattle.cmr_base.proofs.Members.{all_of_members}
use Rattle.cmr_base.proofs.Parity.{even_or_odd}
use Rattle.cmr_base.proofs.Places.{increasing_same}
use Rattle.cmr_base.proofs.IncreasingLists.{IncreasesIn, IsSplitAt, split_at, increasing_below, row_set_increases, column_set_increases}
use Rattle.cmr_base.proofs.SignEntries.{zero_is_entry, negative_is_entry, product_is_entry, sign_square}
use Rattle.cmr_base.proofs.ViolatorLemmas.{violator_same}
use Rattle.ghouila.specs.Found.{HasParity}
use Rattle.cmr_base.specs.PlacedPivots.{pivoted, pivot_entry}
use Rattle.ghouila.specs.PivotLaws.{pivot_at, IsPivotPlace, PivotsUndoThemselves, PivotsTakeViolatorsBack, PivotsKeepViolators, PivotsDecide}
use Rattle.ghouila.proofs.Camion.{HasViolatorIn}
use Rattle.ghouila.proofs.CamionLaw.{camion, no_violator}
use Rattle.ghouila.proofs.PivotSums.{pivoted_at, pivoted_apart}
use Rattle.ghouila.proofs.Square.{small_or_square, square_violator}
use Rattle.ghouila.proofs.WholePivots.{all_fewer, entry_there, entry_in_row, entry_elsewhere, whole_before}

-- ---- the same pivot twice

module _ (M : ℕ → ℕ → ℤ) (r c : ℕ) (u : IsSign (M r c)) where
  square : (x : ℤ) → M r c *ℤ (M r c *ℤ x) ≡ x
  square x = sym (mul_assoc (M r c) (M r c) x) ∙ ap (λ (z : ℤ). z *ℤ x) (sign_square (M r c) u) ∙ one-mul x

  pub twice : (i j : ℕ) → pivot_entry (pivot_entry M r c) r c i j ≡ M i j
  twice i j = elim (cases_eq i r) [
    | inl e ↦ subst (λ k. pivot_entry (pivot_entry M r c) r c k j ≡ M k j) (sym e) (in_row j)
    | inr other ↦ elsewhere i j other
  ]
    where
      in_row : (j : ℕ) → pivot_entry (pivot_entry M r c) r c r j ≡ M r j
      in_row j = elim (cases_eq j c) [
        | inl e ↦ subst (λ k. pivot_entry (pivot_entry M r c) r c r k ≡ M r k) (sym e) (entry_there (pivot_entry M r c) r c ∙ entry_there M r c)
        | inr apart ↦ entry_in_row (pivot_entry M r c) r c j apart ∙ ap₂ (λ (x y : ℤ). x *ℤ y) (entry_there M r c) (entry_in_row M r c j apart) ∙ square (M r j)
      ]

      at_column : (i : ℕ) → i ≢ r → pivot_entry M r c i c ≡ neg_ℤ (M r c *ℤ M i c)
      at_column i other = entry_elsewhere M r c i c other ∙ pivoted_at M r c i

      negated : (a p : ℤ) → IsSign a → neg_ℤ (a *ℤ neg_ℤ (a *ℤ p)) ≡ p
      negated a p (inl e) = rw e (simp products (omega (arith, sums)))
      negated a p (inr e) = rw e (simp products (omega (arith, sums)))

      restored : (a p q x : ℤ) → IsSign a → (x -ℤ a *ℤ (p *ℤ q)) -ℤ a *ℤ (neg_ℤ (a *ℤ p) *ℤ (a *ℤ q)) ≡ x
      restored a p q x (inl e) = rw e (simp products (omega (arith, sums)))
      restored a p q x (inr e) = rw e (simp products (omega (arith, sums)))

      elsewhere : (i j : ℕ) → i ≢ r → pivot_entry (pivot_entry M r c) r c i j ≡ M i j
      elsewhere i j other = elim (cases_eq j c) [
        | inl e ↦ subst (λ k. pivot_entry (pivot_entry M r c) r c i k ≡ M i k) (sym e)
            (entry_elsewhere (pivot_entry M r c) r c i c other ∙ pivoted_at (pivot_entry M r c) r c i
            ∙ ap₂ (λ (x y : ℤ). neg_ℤ (x *ℤ y)) (entry_there M r c) (at_column i other) ∙ negated (M r c) (M i c) u)
        | inr apart ↦
            entry_elsewhere (pivot_entry M r c) r c i j other ∙ pivoted_apart (pivot_entry M r c) r c i j apart
            ∙ ap₂ (λ (x y : ℤ). x -ℤ y) (entry_elsewhere M r c i j other ∙ pivoted_apart M r c i j apart)
            (ap₂ (λ (x y : ℤ). x *ℤ y) (entry_there M r c) (ap₂ (λ (x y : ℤ). x *ℤ y) (at_column i other) (entry_in_row M r c j apart)))
            ∙ restored (M r c) (M i c) (M r j) (M i j) u
      ]

-- the entry after the pivot depends on four entries before it
pub pivot_entry_same : (M N : ℕ → ℕ → ℤ) (r c i j : ℕ) → M r c ≡ N r c → M i c ≡ N i c → M r j ≡ N r j → M i j ≡ N i j → pivot_entry M r c i j ≡ pivot_entry N r c i j
pivot_entry_same M N r c i j e f g h = rw (e, f, g, h) refl

module _ (m : Matrix) (r c : ℕ) (place : IsPivotPlace m r c) where
  pub same_height : height (pivot_at m r c) ≡ height m
  same_height = height-filled (height m) m.width (pivot_entry (entry m) r c)

  pub entry_after : (i j : ℕ) → i < height m → j < m.width → entry (pivot_at m r c) i j ≡ pivot_entry (entry m) r c i j
  entry_after i j hi hj = entry-filled (height m) m.width (pivot_entry (entry m) r c) i j hi hj

  pub entry_twice : (i j : ℕ) → i < height m → j < m.width → pivot_entry (entry (pivot_at m r c)) r c i j ≡ entry m i j
  entry_twice i j hi hj =
      pivot_entry_same (entry (pivot_at m r c)) (pivot_entry (entry m) r c) r c i j (entry_after r c place.row_in place.column_in) (entry_after i c hi place.column_in) (entry_after r j place.row_in hj) (entry_after i j hi hj)
      ∙ twice (entry m) r c place.nonzero i j

-- ---- violators

module _ (height width : ℕ) (M : ℕ → ℕ → ℤ) (r c : ℕ) (u : IsSign (M r c)) (r_in : r < height) (c_in : c < width) where
  violator_of_pivot : (P D : List ℕ) → IncreasesIn 0 height P → IncreasesIn 0 width D → IsViolator (pivot_entry M r c) P D → HasViolatorIn height width M
  violator_of_pivot P D increases increases' v = go (split_at 0 height r P increases) (split_at 0 width c D increases')
    where
      below : (n x : ℕ) (b there : Bool) (xs fewer : List ℕ) → x < n → IsJoined there x fewer xs → AllByRecursion (λ y. y < n) xs
          → (more : List ℕ) × IsJoined b x fewer more × AllByRecursion (λ y. y < n) more
      below n x true there xs fewer h join all = (x ∷ fewer, one_more_first x fewer, (h, all_fewer (λ y. y < n) there x fewer xs join all))
      below n x false there xs fewer h join all = (fewer, refl, all_fewer (λ y. y < n) there x fewer xs join all)

      parity : (z : ℤ) → (b : Bool) × HasParity b z
      parity z = elim (even_or_odd z) [ inl e ↦ (false, e) | inr e ↦ (true, e) ]

      go : IsSplitAt r P → IsSplitAt c D → HasViolatorIn height width M
      go s t =
          let row_in = parity (sum_over P (λ i. M i c)) in
          let column_in = parity (sum_over D (M r)) in
          let rows = below height r row_in.0 s.there P s.others r_in s.joined (increasing_below 0 height P increases) in
          let columns = below width c column_in.0 t.there D t.others c_in t.joined (increasing_below 0 width D increases') in
          record {
            rows = rows.0;
            columns = columns.0;
            rows_in = rows.2;
            columns_in = columns.2;
            violator = whole_before M r c s.there t.there row_in.0 column_in.0 s.others P t.others D rows.0 columns.0 u s.joined s.apart t.joined t.apart row_in.1 column_in.1 rows.1 columns.1 v;
          }

-- the same violator of entries that are equal within the sizes
violator_within : (n w : ℕ) (M N : ℕ → ℕ → ℤ) (P D : List ℕ) → AllByRecursion (λ i. i < n) P → AllByRecursion (λ j. j < w) D
    → ((i j : ℕ) → i < n → j < w → M i j ≡ N i j) → IsViolator M P D → IsViolator N P D
violator_within n w M N P D rows columns same v =
    violator_same M N P D (all_weaker (λ i. i < n) (λ i. AllByRecursion (λ j. M i j ≡ N i j) D) (λ i hi. all_weaker (λ j. j < w) (λ j. M i j ≡ N i j) (λ j hj. same i j hi hj) D columns) P rows) v

pub pivots_keep_violators : PivotsKeepViolators
pivots_keep_violators m r c place = (forth, back)
  where
    high : height (pivot_at m r c) ≡ height m
    high = same_height m r c place

    forth : HasNoViolator m → HasNoViolator (pivot_at m r c)
    forth free P D row_set column_set v =
        let increases = subst (λ n. IncreasesIn 0 n P) high (row_set_increases (pivot_at m r c) P row_set) in
        let increases' = column_set_increases (pivot_at m r c) D column_set in
        no_violator m free (violator_of_pivot (height m) m.width (entry m) r c place.nonzero place.row_in place.column_in P D increases increases'
        (violator_within (height m) m.width (entry (pivot_at m r c)) (pivot_entry (entry m) r c) P D (increasing_below 0 (height m) P increases) (increasing_below 0 m.width D increases') (entry_after m r c place) v))

    sign_after : IsSign (entry (pivot_at m r c) r c)
    sign_after = subst IsSign (sym (entry_after m r c place r c place.row_in place.column_in ∙ entry_there (entry m) r c)) place.nonzero

    back : HasNoViolator (pivot_at m r c) → HasNoViolator m
    back free P D row_set column_set v =
        let increases = row_set_increases m P row_set in
        let increases' = column_set_increases m D column_set in
        no_violator (pivot_at m r c) free (subst (λ n. HasViolatorIn n m.width (entry (pivot_at m r c))) (sym high)
        (violator_of_pivot (height m) m.width (entry (pivot_at m r c)) r c sign_after place.row_in place.column_in P D increases increases'
        (violator_within (height m) m.width (entry m) (pivot_entry (entry (pivot_at m r c)) r c) P D (increasing_below 0 (height m) P increases) (increasing_below 0 m.width D increases') (λ i j hi hj. sym (entry_twice m r c place i j hi hj)) v)))

-- ---- the matrix again

-- a matrix with these entries
pub filled_again : (x : Matrix) (h w : ℕ) (entries : ℕ → ℕ → ℤ) → IsRectangular x → height x ≡ h → x.width ≡ w → ((i j : ℕ) → i < h → j < w → entry x i j ≡ entries i j) → x ≡ filled h w entries
filled_again x h w entries rectangular high wide same = ap₂ (λ rows width. let made : Matrix = record { rows = rows; width = width } in made) rows_again wide
  where
    rows_again : x.rows ≡ map (λ i. map (entries i) (first_lines w)) (first_lines h)
    rows_again = fill_by_all (λ i. map (entries i) (first_lines w)) x.rows h [] high
        (λ i hi. fill_by_all (entries i) (row_of x i) w (pos 0) (rectangular i (omega arith) ∙ wide) (λ j hj. same i j hi hj))

pub pivots_undo_themselves : PivotsUndoThemselves
pivots_undo_themselves m r c rectangular place =
    sym (filled_again m (height (pivot_at m r c)) m.width (pivot_entry (entry (pivot_at m r c)) r c) rectangular (sym (same_height m r c place)) refl
    (λ i j hi hj. sym (entry_twice m r c place i j (let e = same_height m r c place in omega arith) hj)))

-- ---- the entries after the pivot

pub entries_after : (m : Matrix) (r c : ℕ) → HasTernaryEntries m → IsPivotPlace m r c → HasNoViolator m → (i j : ℕ) → i < height m → j < m.width → IsEntry (pivot_entry (entry m) r c i j)
entries_after m r c small place free i j hi hj = elim (cases_eq i r) [
  | inl e ↦ subst (λ k. IsEntry (pivot_entry (entry m) r c k j)) (sym e) (in_row j)
  | inr other ↦ subst IsEntry (sym (entry_elsewhere (entry m) r c i j other)) (elsewhere i j hi hj)
]
  where
    in_row : (j : ℕ) → IsEntry (pivot_entry (entry m) r c r j)
    in_row j = elim (cases_eq j c) [
      | inl e ↦ subst (λ k. IsEntry (pivot_entry (entry m) r c r k)) (sym e) (subst IsEntry (sym (entry_there (entry m) r c)) (small r c))
      | inr apart ↦ subst IsEntry (sym (entry_in_row (entry m) r c j apart)) (product_is_entry (entry m r c) (entry m r j) (small r c) (small r j))
    ]

    elsewhere : (i j : ℕ) → i < height m → j < m.width → IsEntry (pivoted (entry m) r c i j)
    elsewhere i j hi hj = elim (cases_eq j c) [
      | inl e ↦ subst (λ k. IsEntry (pivoted (entry m) r c i k)) (sym e)
          (subst IsEntry (sym (pivoted_at (entry m) r c i)) (negative_is_entry (entry m r c *ℤ entry m i c) (product_is_entry (entry m r c) (entry m i c) (small r c) (small i c))))
      | inr apart ↦ elim (small_or_square (entry m r c) (entry m i c) (entry m r j) (entry m i j) place.nonzero (small i c) (small r j) (small i j)) [
        | inl h ↦ subst IsEntry (sym (pivoted_apart (entry m) r c i j apart)) h
        | inr square ↦ absurd (no_violator m free (record {
          rows = r ∷ i ∷ [];
          columns = c ∷ j ∷ [];
          rows_in = (place.row_in, (hi, tt));
          columns_in = (place.column_in, (hj, tt));
          violator = square_violator (entry m) r i c j square;
        }))
      ]
    ]

-- the entries of a filled matrix, also outside its sizes
small_filled : (h w : ℕ) (entries : ℕ → ℕ → ℤ) → ((i j : ℕ) → i < h → j < w → IsEntry (entries i j)) → HasTernaryEntries (filled h w entries)
small_filled h w entries small i j = elim (cases_lt i h) [
  | inr past ↦ subst IsEntry (sym (entry-past (filled h w entries) i j (let e = height-filled h w entries in omega arith))) zero_is_entry
  | inl hi ↦ elim (cases_lt j w) [
    | inl hj ↦ subst IsEntry (sym (entry-filled h w entries i j hi hj)) (small i j hi hj)
    | inr past ↦ subst IsEntry (sym (beyond i j hi past)) zero_is_entry
  ]
]
  where
    row_is : (i : ℕ) → i < h → row_of (filled h w entries) i ≡ map (entries (get_or (first_lines h) i 0)) (first_lines w)
    row_is i hi = get_or-map (λ row. map (entries row) (first_lines w)) (first_lines h) i 0 [] (let e = length-range_with_len 0 h in omega arith)

    beyond : (i j : ℕ) → i < h → w ≤ j → entry (filled h w entries) i j ≡ pos 0
    beyond i j hi past = ap (λ (row : List ℤ). get_or row j (pos 0)) (row_is i hi)
        ∙ get_or_past (map (entries (get_or (first_lines h) i 0)) (first_lines w)) j (pos 0) (let e = length-range_with_len 0 w in let l = length-map (first_lines w) (entries (get_or (first_lines h) i 0)) in omega arith)

pub pivots_decide : PivotsDecide
pivots_decide m r c ternary place = (
  λ unimodular.
      let free = (camion m ternary.small).0 unimodular in
      let small = small_filled (height m) m.width (pivot_entry (entry m) r c) (entries_after m r c ternary.small place free) in
      (small, (camion (pivot_at m r c) small).1 ((pivots_keep_violators m r c place).0 free)),
  λ after. (camion m ternary.small).1 ((pivots_keep_violators m r c place).1 ((camion (pivot_at m r c) after.0).0 after.1)),
)

-- ---- the lines before the pivot

-- a list is the list without a number, with the number added or not
with_or_without : (n : ℕ) (xs : List ℕ) → IsDistinct xs → (there : Bool) × IsJoined there n (without xs n) xs × ((there ≡ true) ↔ IsIn n xs)
with_or_without n [] d = (false, refl, ((λ e. true_is_false (sym e)), (λ h. absurd h)))
with_or_without n (x ∷ xs) d = go (eqb x n) refl (with_or_without n xs d.1)
  where
    go : (b : Bool) → eqb x n ≡ b → (there : Bool) × IsJoined there n (without xs n) xs × ((there ≡ true) ↔ IsIn n xs)
        → (there : Bool) × IsJoined there n (cond (not b) (x ∷ without xs n) (without xs n)) (x ∷ xs) × ((there ≡ true) ↔ IsIn n (x ∷ xs))
    go true e (true, join, is) = absurd (d.0 (subst (λ (k : ℕ). IsIn k xs) (sym (eqb-true x n e)) (is.0 refl)))
    go true e (false, join, is) = (
      true,
      subst (λ (k : ℕ). HasOneMore n (without xs n) (k ∷ xs)) (sym (eqb-true x n e)) (subst (λ ys. HasOneMore n (without xs n) (n ∷ ys)) (sym join) (one_more_first n (without xs n))),
      ((λ h. inl (sym (eqb-true x n e))), (λ h. refl)),
    )
    go false e (there, join, is) = (there, joined_later there x n (without xs n) xs join, ((λ h. inr (is.0 h)), (λ h. elim h [ inl q ↦ absurd (eqb-false x n e (sym q)) | inr k ↦ is.1 k ])))

same_without : (n : ℕ) (xs ys : List ℕ) → IsStrictlyIncreasing xs → IsStrictlyIncreasing ys → ((x : ℕ) → x ≢ n → IsIn x xs ↔ IsIn x ys) → without xs n ≡ without ys n
same_without n xs ys increases increases' same =
    increasing_same (without xs n) (without ys n) (without_increases n xs increases) (without_increases n ys increases')
    (λ x h. let w = without_in n x xs h in in_without n x ys ((same x w.1).0 w.0) w.1)
    (λ x h. let w = without_in n x ys h in in_without n x xs ((same x w.1).1 w.0) w.1)

-- a list joined with the number if the sum is odd
joined_by_parity : (n : ℕ) (xs fewer : List ℕ) (z : ℤ) → IsDistinct xs → without xs n ≡ fewer → IsIn n xs ↔ IsOdd z → (b : Bool) × HasParity b z × IsJoined b n fewer xs
joined_by_parity n xs fewer z d same odd = go (with_or_without n xs d)
  where
    go : (there : Bool) × IsJoined there n (without xs n) xs × ((there ≡ true) ↔ IsIn n xs) → (b : Bool) × HasParity b z × IsJoined b n fewer xs
    go (true, join, is) = (true, odd.0 (is.0 refl), subst (λ ys. IsJoined true n ys xs) same join)
    go (false, join, is) = (false, even (even_or_odd z), subst (λ ys. IsJoined false n ys xs) same join)
      where
        even : IsEven z ⊎ IsOdd z → IsEven z
        even (inl e) = e
        even (inr o) = true_is_false (sym (is.1 (odd.1 o)))

pub pivots_take_violators_back : PivotsTakeViolatorsBack
pivots_take_violators_back m r c P D R' C' place p_set d_set r_set c_set lines v =
    let inside = increasing_below 0 (height m) P (row_set_increases m P p_set) in
    let inside' = increasing_below 0 m.width D (column_set_increases m D d_set) in
    let s = with_or_without r P (increasing_distinct P p_set.increasing) in
    let t = with_or_without c D (increasing_distinct D d_set.increasing) in
    let row = joined_by_parity r R' (without P r) (sum_over P (λ i. entry m i c)) (increasing_distinct R' r_set.increasing) (same_without r R' P r_set.increasing p_set.increasing lines.other_rows) lines.row_there in
    let column = joined_by_parity c C' (without D c) (sum_over D (entry m r)) (increasing_distinct C' c_set.increasing) (same_without c C' D c_set.increasing d_set.increasing lines.other_columns) lines.column_there in
    whole_before (entry m) r c s.0 t.0 row.0 column.0 (without P r) P (without D c) D R' C' place.nonzero s.1 (apart r P) t.1 (apart c D) row.1 column.1 row.2 column.2
    (violator_within (height m) m.width (entry (pivot_at m r c)) (pivot_entry (entry m) r c) P D inside inside' (entry_after m r c place) v)
  where
    apart : (n : ℕ) (xs : List ℕ) → AllByRecursion (λ x. x ≢ n) (without xs n)
    apart n xs = all_of_members (λ x. x ≢ n) (without xs n) (λ x h. (without_in n x xs h).1)
