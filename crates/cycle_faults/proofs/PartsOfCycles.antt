-- A violator on lines of a cycle without chords contains all lines of the cycle.
use Rattle.std.proofs.Common.{◌≡◌, ◌≢◌, ◌<◌, ◌⊎◌, inl, inr, ◌∙◌, ℕ, zero, suc, ℤ, pos, ◌+ℤ◌, List, [], ◌∷◌, refl, ap, sym, subst, arith}
use Rattle.std.proofs.lemmas.Bool.{cases_lt}
use Rattle.cmr_base.specs.Members.{IsIn, IsDistinct}
use Rattle.cmr_base.specs.Signing.{IsSign}
use Rattle.cmr_base.specs.Sums.{sum_over, IsEven, IsTwoModFour}
use Rattle.cmr_base.specs.Violator.{IsViolator}
use Rattle.cmr_base.proofs.Integers.{sums}
use Rattle.cmr_base.proofs.Members.{all_in}
use Rattle.cmr_base.proofs.Parity.{two_mod_four_not_four}
use Rattle.cmr_base.proofs.RowLists.{in_or_not}
use Rattle.cmr_base.proofs.SignEntries.{sign_is_entry}
use Rattle.cmr_base.proofs.SumLaws.{sum_over-zero}
use Rattle.ghouila.proofs.Cycles.{IsCycle}
use Rattle.ghouila.proofs.NetworkSignings.{same_at_members}
use Rattle.ghouila.proofs.SignedSums.{even_entry}
use Rattle.ghouila.proofs.SignProducts.{sign_nonzero}

-- ---- sums over distinct numbers

-- a sum with one odd term
odd_member : (xs : List ℕ) (f : ℕ → ℤ) (one : ℕ) → IsDistinct xs → IsSign (f one) → ((x : ℕ) → IsIn x xs → x ≢ one → f x ≡ pos 0) → IsIn one xs → ¬ IsEven (sum_over xs f)
odd_member [] f one distinct sign zeros there even = absurd there
odd_member (x ∷ xs) f one distinct sign zeros (inl e) even =
    let rest : sum_over xs f ≡ pos 0 = same_at_members xs f (λ y. pos 0) (λ y h. zeros y (inr h) (λ q. distinct.0 (subst (λ (v : ℕ). IsIn v xs) (q ∙ e) h))) ∙ sum_over-zero xs in
    sign_nonzero (f one) sign (even_entry (f one) (sign_is_entry (f one) sign) (subst IsEven (plain (f x) (f one) (sum_over xs f) (ap f (sym e)) rest) even))
  where
    plain : (first named others : ℤ) → first ≡ named → others ≡ pos 0 → first +ℤ others ≡ named
    plain first named others e g = omega (arith, sums)
odd_member (x ∷ xs) f one distinct sign zeros (inr h) even =
    let first : f x ≡ pos 0 = zeros x (inl refl) (λ q. distinct.0 (subst (λ (v : ℕ). IsIn v xs) (sym q) h)) in
    odd_member xs f one distinct.1 sign (λ y g. zeros y (inr g)) h (subst IsEven (plain (f x) (sum_over xs f) first) even)
  where
    plain : (first others : ℤ) → first ≡ pos 0 → first +ℤ others ≡ others
    plain first others e = omega (arith, sums)

-- of two numbers with the only nonzeros, an even sum has both or none
other_member : (xs : List ℕ) (f : ℕ → ℤ) (one other : ℕ) → IsDistinct xs → IsEven (sum_over xs f) → IsSign (f one)
    → ((x : ℕ) → IsIn x xs → x ≢ one → x ≢ other → f x ≡ pos 0) → IsIn one xs → IsIn other xs
other_member xs f one other distinct even sign zeros there = elim (in_or_not other xs) [
  | inl h ↦ h
  | inr missing ↦ absurd (odd_member xs f one distinct sign (λ x h apart. zeros x h apart (λ q. missing (subst (λ (v : ℕ). IsIn v xs) q h))) there even)
]

-- ---- a violator on some lines of a cycle

module _ (M : ℕ → ℕ → ℤ) (t k : ℕ) (row col : ℕ → ℕ) (cycle : IsCycle M t k row col) (P Q : List ℕ) (distinct_rows : IsDistinct P) (distinct_columns : IsDistinct Q)
    (rows_from : (i : ℕ) → IsIn i P → (i ≡ t) ⊎ ((n : ℕ) × (n < k) × (i ≡ row n))) (columns_from : (j : ℕ) → IsIn j Q → (n : ℕ) × (n < suc k) × (j ≡ col n))
    (violator : IsViolator M P Q) where
  -- the row and the column are in the violator
  abbrev Has : ℕ → ℕ → Type 0
  Has i j = IsIn i P × IsIn j Q

  -- along a row, and along a column
  across_row : (i one other : ℕ) → IsSign (M i one) → ((n : ℕ) → n < suc k → col n ≢ one → col n ≢ other → M i (col n) ≡ pos 0) → Has i one → Has i other
  across_row i one other sign zeros has = (
    has.0,
    other_member Q (M i) one other distinct_columns (all_in (λ x. IsEven (sum_over Q (λ j. M x j))) P violator.even_rows i has.0) sign zero_at has.1,
  )
    where
      zero_at : (j : ℕ) → IsIn j Q → j ≢ one → j ≢ other → M i j ≡ pos 0
      zero_at j h p q = let from = columns_from j h in
          subst (λ (x : ℕ). M i x ≡ pos 0) (sym from.2) (zeros from.0 from.1 (λ e. p (from.2 ∙ e)) (λ e. q (from.2 ∙ e)))

  across_column : (j one other : ℕ) → IsSign (M one j) → (t ≢ one → t ≢ other → M t j ≡ pos 0) → ((n : ℕ) → n < k → row n ≢ one → row n ≢ other → M (row n) j ≡ pos 0)
      → Has one j → Has other j
  across_column j one other sign last zeros has = (
    other_member P (λ i. M i j) one other distinct_rows (all_in (λ x. IsEven (sum_over P (λ i. M i x))) Q violator.even_columns j has.1) sign (λ i h. zero_at i (rows_from i h)) has.0,
    has.1,
  )
    where
      zero_at : (i : ℕ) → (i ≡ t) ⊎ ((n : ℕ) × (n < k) × (i ≡ row n)) → i ≢ one → i ≢ other → M i j ≡ pos 0
      zero_at i (inl e) p q = subst (λ (x : ℕ). M x j ≡ pos 0) (sym e) (last (λ f. p (e ∙ f)) (λ f. q (e ∙ f)))
      zero_at i (inr from) p q = subst (λ (x : ℕ). M x j ≡ pos 0) (sym from.2) (zeros from.0 from.1 (λ f. p (from.2 ∙ f)) (λ f. q (from.2 ∙ f)))

  -- ---- the zeros of each line

  row_zeros : (i : ℕ) → i < k → (n : ℕ) → n < suc k → col n ≢ col i → col n ≢ col (suc i) → M (row i) (col n) ≡ pos 0
  row_zeros i l n m p q = cycle.none i n l (omega arith) (λ e. p (ap col e)) (λ e. q (ap col e))

  last_zeros : (n : ℕ) → n < suc k → col n ≢ col 0 → col n ≢ col k → M t (col n) ≡ pos 0
  last_zeros zero m p q = absurd (p refl)
  last_zeros (suc n) m p q = elim (cases_lt (suc n) k) [
    | inl inside ↦ cycle.inner (suc n) (omega arith) inside
    | inr past ↦ absurd (let same : suc n ≡ k = omega arith in q (ap col same))
  ]

  column_zeros : (j : ℕ) → suc j < k → (n : ℕ) → n < k → row n ≢ row j → row n ≢ row (suc j) → M (row n) (col (suc j)) ≡ pos 0
  column_zeros j l n m p q = cycle.none n (suc j) m (omega arith) (λ e. q (ap row (sym e))) (λ e. let same : n ≡ j = omega arith in p (ap row same))

  -- ---- around the cycle

  over : (i : ℕ) → i < k → Has (row i) (col i) → Has (row i) (col (suc i))
  over i l = across_row (row i) (col i) (col (suc i)) (cycle.here i l) (row_zeros i l)

  over_back : (i : ℕ) → i < k → Has (row i) (col (suc i)) → Has (row i) (col i)
  over_back i l = across_row (row i) (col (suc i)) (col i) (cycle.next i l) (λ n m p q. row_zeros i l n m q p)

  down : (j : ℕ) → suc j < k → Has (row j) (col (suc j)) → Has (row (suc j)) (col (suc j))
  down j l = across_column (col (suc j)) (row j) (row (suc j)) (cycle.next j (omega arith)) (λ p q. cycle.inner (suc j) (omega arith) l) (column_zeros j l)

  up : (j : ℕ) → suc j < k → Has (row (suc j)) (col (suc j)) → Has (row j) (col (suc j))
  up j l = across_column (col (suc j)) (row (suc j)) (row j) (cycle.here (suc j) l) (λ p q. cycle.inner (suc j) (omega arith) l) (λ n m p q. column_zeros j l n m q p)

  first_zeros : (n : ℕ) → n < k → row n ≢ row 0 → M (row n) (col 0) ≡ pos 0
  first_zeros n m p = cycle.none n 0 m (omega arith) (λ e. p (ap row (sym e))) (omega arith)

  to_last : Has (row 0) (col 0) → Has t (col 0)
  to_last = across_column (col 0) (row 0) t (cycle.here 0 cycle.long) (λ p q. absurd (q refl)) (λ n m p q. first_zeros n m p)

  from_last : Has t (col 0) → Has (row 0) (col 0)
  from_last = across_column (col 0) t (row 0) cycle.first (λ p q. absurd (p refl)) (λ n m p q. first_zeros n m q)

  last_back : Has t (col k) → Has t (col 0)
  last_back = across_row t (col k) (col 0) cycle.last (λ n m p q. last_zeros n m q p)

  -- from the first crossing to each other, and back
  all_have : Has (row 0) (col 0) → (i : ℕ) → i < k → Has (row i) (col i)
  all_have has zero l = has
  all_have has (suc i) l = down i l (over i (omega arith) (all_have has i (omega arith)))

  first_has : (i : ℕ) → i < k → Has (row i) (col i) → Has (row 0) (col 0)
  first_has zero l has = has
  first_has (suc i) l has = first_has i (omega arith) (over_back i (omega arith) (up i l has))

  -- ---- without the first crossing there is no nonzero

  module _ (none : ¬ Has (row 0) (col 0)) where
    inner_zero : (i n : ℕ) → i < k → n < suc k → Has (row i) (col n) → M (row i) (col n) ≡ pos 0
    inner_zero i n l m has = row_zeros i l n m
        (λ e. none (first_has i l (has.0, subst (λ (x : ℕ). IsIn x Q) e has.1)))
        (λ e. none (first_has i l (over_back i l (has.0, subst (λ (x : ℕ). IsIn x Q) e has.1))))

    last_zero : (n : ℕ) → n < suc k → Has t (col n) → M t (col n) ≡ pos 0
    last_zero n m has = last_zeros n m
        (λ e. none (from_last (has.0, subst (λ (x : ℕ). IsIn x Q) e has.1)))
        (λ e. none (from_last (last_back (has.0, subst (λ (x : ℕ). IsIn x Q) e has.1))))

    zero_entry : (i j : ℕ) → IsIn i P → IsIn j Q → M i j ≡ pos 0
    zero_entry i j h g = go (rows_from i h) (columns_from j g)
      where
        go : (i ≡ t) ⊎ ((n : ℕ) × (n < k) × (i ≡ row n)) → (n : ℕ) × (n < suc k) × (j ≡ col n) → M i j ≡ pos 0
        go (inl e) (n, m, f) = rw (e, f) (last_zero n m (subst (λ (x : ℕ). IsIn x P) e h, subst (λ (x : ℕ). IsIn x Q) f g))
        go (inr (i', l, e)) (n, m, f) = rw (e, f) (inner_zero i' n l m (subst (λ (x : ℕ). IsIn x P) e h, subst (λ (x : ℕ). IsIn x Q) f g))

    zero_sum : sum_over P (λ i. sum_over Q (λ j. M i j)) ≡ pos 0
    zero_sum = same_at_members P (λ i. sum_over Q (λ j. M i j)) (λ i. pos 0) (λ i h. same_at_members Q (λ j. M i j) (λ j. pos 0) (λ j g. zero_entry i j h g) ∙ sum_over-zero Q)
        ∙ sum_over-zero P

    no_sum : ⊥
    no_sum = two_mod_four_not_four (pos 0) (subst IsTwoModFour zero_sum violator.two_mod_four) (pos 0, refl)

  start : Has (row 0) (col 0)
  start = elim (in_or_not (row 0) P) [
    | inr missing ↦ absurd (no_sum (λ has. missing has.0))
    | inl here ↦ elim (in_or_not (col 0) Q) [
      | inr missing ↦ absurd (no_sum (λ has. missing has.1))
      | inl there ↦ (here, there)
    ]
  ]

  -- ---- all lines are in the violator

  pub last_row_in : IsIn t P
  last_row_in = (to_last start).0

  pub rows_in : (i : ℕ) → i < k → IsIn (row i) P
  rows_in i l = (all_have start i l).0

  pub columns_in : (j : ℕ) → j < suc k → IsIn (col j) Q
  columns_in zero l = start.1
  columns_in (suc j) l = (over j (omega arith) (all_have start j (omega arith))).1
