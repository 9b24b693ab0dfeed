-- The matrix that is made for a pivot, and the first 2 or -2 that it would have.
use Rattle.std.proofs.Common.{◌≡◌, ◌≢◌, ◌<◌, ◌≤◌, ◌⊎◌, ◌∙◌, inl, inr, ℕ, ◌*ℤ◌, List, [], ◌∷◌, length, get_or, ap, ap₂, sym, subst, arith}
use Rattle.std.specs.List.Sorted.{IsStrictlyIncreasing}
use Rattle.std.proofs.lemmas.Bool.{cases_eq, cases_lt}
use Rattle.cmr_base.specs.Matrix.{Matrix, height, entry, IsEntry, IsMatrix}
use Rattle.cmr_base.specs.LineSets.{AllBelow, first_lines, without}
use Rattle.cmr_base.specs.Members.{IsIn}
use Rattle.cmr_base.specs.Violator.{IsViolator}
use Rattle.cmr_base.proofs.Lists.{HasOneMore, one_more_first, one_more_later}
use Rattle.cmr_base.proofs.ListsWithout.{in_without, without_in, without_increases, place_of, place_is}
use Rattle.cmr_base.proofs.Members.{all_in, all_of_members, in_at}
use Rattle.cmr_base.proofs.RemovedLines.{first_lines_increase, in_first_lines, first_lines_in}
use Rattle.cmr_base.proofs.SignEntries.{negative_is_entry, product_is_entry}
use Rattle.cmr_base.proofs.Submatrices.{increasing_places}
use Rattle.cmr_base.proofs.ViolatorLemmas.{violator_rows_reordered, violator_columns_reordered}
use Rattle.cmr_base.specs.PlacedPivots.{reduced, pivoted, pivot_entry}
use Rattle.ghouila.specs.Pivot.{IsOutside, IsTernaryRow, KeepsRowsElsewhere, PivotsRows, HasSquareViolator, IsFirstTwoEntry}
use Rattle.ghouila.specs.PivotLaws.{pivot_at, IsPivotPlace}
use Rattle.ghouila.proofs.PivotLaws.{entry_after, filled_again, pivot_entry_same}
use Rattle.ghouila.proofs.PivotSums.{pivoted_at, pivoted_apart}
use Rattle.ghouila.proofs.Square.{square_violator}
use Rattle.ghouila.proofs.SquareMarks.{rows_apart, columns_apart}
use Rattle.ghouila.proofs.WholePivots.{entry_there, entry_in_row, entry_elsewhere}
use Rattle.pivots.specs.ChosenLines.{two_lines}
use Rattle.pivots.specs.Pivoted.{ShowsFirstTwo}

-- ---- the other rows

pub others_below : (n r : ℕ) → AllBelow n (without (first_lines n) r)
others_below n r k h = first_lines_in n (get_or (without (first_lines n) r) k 0) (without_in r (get_or (without (first_lines n) r) k 0) (first_lines n) (in_at (without (first_lines n) r) k h)).0

pub others_increase : (n r : ℕ) → IsStrictlyIncreasing (without (first_lines n) r)
others_increase n r = without_increases r (first_lines n) (first_lines_increase n)

pub others_outside : (n r : ℕ) → IsOutside r (without (first_lines n) r)
others_outside n r = all_of_members (λ x. x ≢ r) (without (first_lines n) r) (λ x h. (without_in r x (first_lines n) h).1)

pub other_is_in : (n r i : ℕ) → i < n → i ≢ r → IsIn i (without (first_lines n) r)
other_is_in n r i h apart = in_without r i (first_lines n) (in_first_lines n i h) apart

-- ---- the matrix that is made

module _ (m : Matrix) (r c : ℕ) (place : IsPivotPlace m r c) where
  pub made_pivot : (w x : Matrix) → KeepsRowsElsewhere m w (without (first_lines (height m)) r) → PivotsRows m w r c (without (first_lines (height m)) r) → KeepsRowsElsewhere w x (r ∷ [])
      → ((j : ℕ) → j < w.width → entry x r j ≡ pivot_entry (entry w) r c r j) → IsMatrix x → x ≡ pivot_at m r c
  made_pivot w x kept pivots kept' row is =
      filled_again x (height m) m.width (pivot_entry (entry m) r c) is.rectangular (kept'.same_height ∙ kept.same_height) (kept'.same_width ∙ kept.same_width) same
    where
      row_kept : (j : ℕ) → entry w r j ≡ entry m r j
      row_kept j = kept.others r j (others_outside (height m) r)

      same : (i j : ℕ) → i < height m → j < m.width → entry x i j ≡ pivot_entry (entry m) r c i j
      same i j hi hj = elim (cases_eq i r) [
        | inl e ↦ subst (λ k. entry x k j ≡ pivot_entry (entry m) r c k j) (sym e)
            (row j (let wide = kept.same_width in omega arith) ∙ pivot_entry_same (entry w) (entry m) r c r j (row_kept c) (row_kept c) (row_kept j) (row_kept j))
        | inr other ↦
            kept'.others i j ((λ e. other (sym e)), tt)
            ∙ all_in (λ k. (j : ℕ) → j < m.width → entry w k j ≡ pivoted (entry m) r c k j) (without (first_lines (height m)) r) pivots i (other_is_in (height m) r i hi other) j hj
            ∙ sym (entry_elsewhere (entry m) r c i j other)
      ]

  -- ---- the first 2 or -2

  small_row : IsMatrix m → (j : ℕ) → j < m.width → IsEntry (entry (pivot_at m r c) r j)
  small_row is j hj = subst IsEntry (sym (entry_after m r c place r j place.row_in hj)) (go (cases_eq j c))
    where
      go : (j ≡ c) ⊎ (j ≢ c) → IsEntry (pivot_entry (entry m) r c r j)
      go (inl e) = subst (λ k. IsEntry (pivot_entry (entry m) r c r k)) (sym e) (subst IsEntry (sym (entry_there (entry m) r c)) (is.small r c))
      go (inr apart) = subst IsEntry (sym (entry_in_row (entry m) r c j apart)) (product_is_entry (entry m r c) (entry m r j) (is.small r c) (is.small r j))

  -- of a row in which the entries before a column are small without the pivot's column
  small_others : IsMatrix m → (i k : ℕ) → i < height m → i ≢ r → k ≤ m.width → IsTernaryRow k (reduced (entry m) r c i) → (j : ℕ) → j < k → IsEntry (entry (pivot_at m r c) i j)
  small_others is i k hi other k_in small j hj =
      subst IsEntry (sym (entry_after m r c place i j hi (omega arith) ∙ entry_elsewhere (entry m) r c i j other)) (go (cases_eq j c))
    where
      go : (j ≡ c) ⊎ (j ≢ c) → IsEntry (pivoted (entry m) r c i j)
      go (inl e) = subst (λ k. IsEntry (pivoted (entry m) r c i k)) (sym e)
          (subst IsEntry (sym (pivoted_at (entry m) r c i)) (negative_is_entry (entry m r c *ℤ entry m i c) (product_is_entry (entry m r c) (entry m i c) (is.small r c) (is.small i c))))
      go (inr apart) = subst IsEntry (sym (pivoted_apart (entry m) r c i j apart)) (small j hj)

  -- two lines in either order
  in_order : (a b : ℕ) → HasOneMore b (a ∷ []) (two_lines a b)
  in_order a b = elim (cases_lt a b) [
    | inl lt ↦ subst (λ xs. HasOneMore b (a ∷ []) xs) (ap₂ (λ (x y : ℕ). x ∷ y ∷ []) (omega arith) (omega arith)) (one_more_later a b [] (b ∷ []) (one_more_first b []))
    | inr ge ↦ subst (λ xs. HasOneMore b (a ∷ []) xs) (ap₂ (λ (x y : ℕ). x ∷ y ∷ []) (omega arith) (omega arith)) (one_more_first b (a ∷ []))
  ]

  pub violator_in_order : (i j : ℕ) → HasSquareViolator m r c i j → IsViolator (entry m) (two_lines r i) (two_lines c j)
  violator_in_order i j s =
      violator_columns_reordered (entry m) j (c ∷ []) (two_lines r i) (c ∷ j ∷ []) (two_lines c j) (one_more_later c j [] (j ∷ []) (one_more_first j [])) (in_order c j)
      (violator_rows_reordered (entry m) i (r ∷ []) (r ∷ i ∷ []) (two_lines r i) (c ∷ j ∷ []) (one_more_later r i [] (i ∷ []) (one_more_first i [])) (in_order r i)
      (square_violator (entry m) r i c j s.square))

  pub first_two : IsMatrix m → (i j p : ℕ) (rows columns : List ℕ) → HasSquareViolator m r c i j → i ≡ get_or (without (first_lines (height m)) r) p 0
      → IsFirstTwoEntry m (without (first_lines (height m)) r) r c p j
      → rows ≡ two_lines r i → columns ≡ two_lines c j → ShowsFirstTwo m r c rows columns
  first_two is i j p rows columns s at first e f = record {
    other_row = i;
    other_column = j;
    row_in = s.row_in;
    column_in = s.column_in;
    two = λ small. first.two (subst (λ k. IsEntry (reduced (entry m) r c k j)) at
        (subst IsEntry (entry_after m r c place i j s.row_in s.column_in ∙ entry_elsewhere (entry m) r c i j (rows_apart m r c i j s) ∙ pivoted_apart (entry m) r c i j (columns_apart m r c i j s)) small));
    rows_before = before;
    columns_before = small_others is i j s.row_in (rows_apart m r c i j s) (let l = s.column_in in omega arith) (subst (λ k. IsTernaryRow j (reduced (entry m) r c k)) (sym at) first.first_column);
    rows_are = e;
    columns_are = f;
    violator = subst (λ xs. IsViolator (entry m) xs columns) (sym e) (subst (IsViolator (entry m) (two_lines r i)) (sym f) (violator_in_order i j s));
  }
    where
      left : List ℕ
      left = without (first_lines (height m)) r

      before : (k l : ℕ) → k < i → l < m.width → IsEntry (entry (pivot_at m r c) k l)
      before k l lower hl = elim (cases_eq k r) [
        | inl q ↦ subst (λ x. IsEntry (entry (pivot_at m r c) x l)) (sym q) (small_row is l hl)
        | inr other ↦
            let inside : k < height m = let h = s.row_in in omega arith in
            let w = place_is k (without (first_lines (height m)) r) (other_is_in (height m) r k inside other) in
            let n = place_of k (without (first_lines (height m)) r) in
            elim (cases_lt n p) [
              | inl lt ↦ small_others is k m.width inside other (omega arith) (subst (λ x. IsTernaryRow m.width (reduced (entry m) r c x)) w.there (first.first_row n lt)) l hl
              | inr ge ↦ absurd (not_later n ge w.in_range w.there)
            ]
      ]
        where
          not_later : (n : ℕ) → p ≤ n → n < length (without (first_lines (height m)) r) → get_or (without (first_lines (height m)) r) n 0 ≡ k → ⊥
          not_later n ge in_range is_k = elim (cases_eq n p) [
            | inl same ↦ let here : i ≡ k = at ∙ ap (λ x. get_or (without (first_lines (height m)) r) x 0) (sym same) ∙ is_k in omega arith
            | inr apart ↦ let above = increasing_places (without (first_lines (height m)) r) p n (others_increase (height m) r) (omega arith) in_range in omega (arith, above, at, is_k)
          ]
