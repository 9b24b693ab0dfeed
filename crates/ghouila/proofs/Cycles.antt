-- Cycles without chords, by the positions of their lines: their lines have even sums.
use Rattle.std.proofs.Common.{◌≡◌, ◌≢◌, ◌<◌, ◌≤◌, ◌⊎◌, inl, inr, ◌∙◌, ℕ, zero, suc, ℤ, pos, negsuc, ◌+ℤ◌, ◌-ℤ◌, List, [], ◌∷◌, map, refl, ap, sym, subst, arith}
use Rattle.std.specs.List.{AllByRecursion}
use Rattle.std.proofs.lemmas.Bool.{cases_lt}
use Rattle.cmr_base.specs.Signing.{IsSign}
use Rattle.cmr_base.specs.Sums.{sum_over, IsEven, IsTwoModFour}
use Rattle.cmr_base.proofs.Integers.{sums}
use Rattle.cmr_base.proofs.Parity.{IsFour, even_or_odd, even-sum_over}
use Rattle.cmr_base.proofs.SumLaws.{sum_over-map}
use Rattle.cmr_base.specs.Violator.{IsViolator}

-- the numbers below n
abbrev pub below : ℕ → List ℕ
below zero = []
below (suc n) = n ∷ below n

-- row i joins columns i and i + 1, row t joins the first and the last, and no other entry is nonzero
pub record IsCycle (M : ℕ → ℕ → ℤ) (t k : ℕ) (row col : ℕ → ℕ) : Type 0 where
  pub long : 0 < k
  pub here : (i : ℕ) → i < k → IsSign (M (row i) (col i))
  pub next : (i : ℕ) → i < k → IsSign (M (row i) (col (suc i)))
  pub none : (i j : ℕ) → i < k → j ≤ k → j ≢ i → j ≢ suc i → M (row i) (col j) ≡ pos 0
  pub first : IsSign (M t (col 0))
  pub last : IsSign (M t (col k))
  pub inner : (j : ℕ) → 0 < j → j < k → M t (col j) ≡ pos 0

pub all-map : (P : ℕ → Type 0) (g : ℕ → ℕ) (n : ℕ) → ((i : ℕ) → i < n → P (g i)) → AllByRecursion P (map g (below n))
all-map P g zero h = tt
all-map P g (suc n) h = (h n (omega arith), all-map P g n (λ i l. h i (omega arith)))

no_terms : (f : ℕ → ℤ) (n : ℕ) → ((j : ℕ) → j < n → f j ≡ pos 0) → sum_over (below n) f ≡ pos 0
no_terms f zero h = refl
no_terms f (suc n) h = rw (h n (omega arith), no_terms f n (λ j l. h j (omega arith))) refl

pub one_term : (f : ℕ → ℤ) (n i : ℕ) → i < n → ((j : ℕ) → j < n → j ≢ i → f j ≡ pos 0) → sum_over (below n) f ≡ f i
one_term f zero i l h = absurd (omega arith)
one_term f (suc n) i l h = elim (cases_lt i n) [
  | inl lt ↦ rw (h n (omega arith) (omega arith), one_term f n i lt (λ j m e. h j (omega arith) e)) (plain (f i))
  | inr ge ↦ let e : n ≡ i = omega arith in
      rw (no_terms f n (λ j m. h j (omega arith) (omega arith))) (last (f n) ∙ ap f e)
]
  where
    plain : (x : ℤ) → pos 0 +ℤ x ≡ x
    plain x = omega (arith, sums)

    last : (x : ℤ) → x +ℤ pos 0 ≡ x
    last x = omega (arith, sums)

pub two_terms : (f : ℕ → ℤ) (n i : ℕ) → suc i < n → ((j : ℕ) → j < n → j ≢ i → j ≢ suc i → f j ≡ pos 0) → sum_over (below n) f ≡ f (suc i) +ℤ f i
two_terms f zero i l h = absurd (omega arith)
two_terms f (suc n) i l h = elim (cases_lt (suc i) n) [
  | inl lt ↦ rw (h n (omega arith) (omega arith) (omega arith), two_terms f n i lt (λ j m d e. h j (omega arith) d e)) (plain (f (suc i) +ℤ f i))
  | inr ge ↦ let e : n ≡ suc i = omega arith in
      rw (one_term f n i (omega arith) (λ j m d. h j (omega arith) d (omega arith))) (ap (λ (k : ℕ). f k +ℤ f i) e)
]
  where
    plain : (x : ℤ) → pos 0 +ℤ x ≡ x
    plain x = omega (arith, sums)

pair_even : (x y : ℤ) → IsSign x → IsSign y → IsEven (x +ℤ y)
pair_even x y (inl e) (inl f) = (pos 1, rw (e, f) refl)
pair_even x y (inl e) (inr f) = (pos 0, rw (e, f) refl)
pair_even x y (inr e) (inl f) = (pos 0, rw (e, f) refl)
pair_even x y (inr e) (inr f) = (negsuc 0, rw (e, f) refl)

module _ (M : ℕ → ℕ → ℤ) (t k : ℕ) (row col : ℕ → ℕ) (c : IsCycle M t k row col) where
  pub inner_row : (i : ℕ) → i < k → IsEven (sum_over (map col (below (suc k))) (λ j. M (row i) j))
  inner_row i l = rw (sum_over-map col (below (suc k)) (λ j. M (row i) j), two_terms (λ j. M (row i) (col j)) (suc k) i (omega arith) (λ j m d e. c.none i j l (omega arith) d e))
      (pair_even (M (row i) (col (suc i))) (M (row i) (col i)) (c.next i l) (c.here i l))

  pub last_row : IsEven (sum_over (map col (below (suc k))) (λ j. M t j))
  last_row = rw (sum_over-map col (below (suc k)) (λ j. M t j), one_term (λ j. M t (col j)) k 0 c.long (λ j m d. c.inner j (omega arith) m))
      (pair_even (M t (col k)) (M t (col 0)) c.last c.first)

  column_first : IsEven (sum_over (t ∷ map row (below k)) (λ i. M i (col 0)))
  column_first = let l : 0 < k = c.long in
      rw (sum_over-map row (below k) (λ i. M i (col 0)), one_term (λ i. M (row i) (col 0)) k 0 l (λ j m d. c.none j 0 m (omega arith) (omega arith) (omega arith)))
      (pair_even (M t (col 0)) (M (row 0) (col 0)) c.first (c.here 0 l))

  pub column_even : (j : ℕ) → j < suc k → IsEven (sum_over (t ∷ map row (below k)) (λ i. M i (col j)))
  column_even zero l = column_first
  column_even (suc j) l = elim (cases_lt (suc j) k) [
    | inl lt ↦ rw (
      c.inner (suc j) (omega arith) lt,
      sum_over-map row (below k) (λ i. M i (col (suc j))),
      two_terms (λ i. M (row i) (col (suc j))) k j lt (λ i m d e. c.none i (suc j) m (omega arith) (omega arith) (omega arith)),
    )
        (plain (M (row (suc j)) (col (suc j))) (M (row j) (col (suc j))) (pair_even (M (row (suc j)) (col (suc j))) (M (row j) (col (suc j))) (c.here (suc j) lt) (c.next j (omega arith))))
    | inr ge ↦ let e : suc j ≡ k = omega arith in
        rw (sum_over-map row (below k) (λ i. M i (col (suc j))), one_term (λ i. M (row i) (col (suc j))) k j (omega arith) (λ i m d. c.none i (suc j) m (omega arith) (omega arith) (omega arith)))
        (pair_even (M t (col (suc j))) (M (row j) (col (suc j))) (subst (λ (x : ℕ). IsSign (M t (col x))) (sym e) c.last) (c.next j (omega arith)))
  ]
    where
      plain : (x y : ℤ) → IsEven (x +ℤ y) → IsEven (pos 0 +ℤ (x +ℤ y))
      plain x y (k, e) = (k, omega (arith, sums))

  -- a cycle whose sum is 2 modulo 4 is a violator
  pub cycle_violates : IsTwoModFour (sum_over (t ∷ map row (below k)) (λ i. sum_over (map col (below (suc k))) (λ j. M i j))) → IsViolator M (t ∷ map row (below k)) (map col (below (suc k)))
  cycle_violates two = record {
    even_rows = (last_row, all-map (λ i. IsEven (sum_over (map col (below (suc k))) (λ j. M i j))) row k inner_row);
    even_columns = all-map (λ j. IsEven (sum_over (t ∷ map row (below k)) (λ i. M i j))) col (suc k) column_even;
    two_mod_four = two;
  }

  pub rows_even : IsEven (sum_over (t ∷ map row (below k)) (λ i. sum_over (map col (below (suc k))) (λ j. M i j)))
  rows_even = even-sum_over (t ∷ map row (below k)) (λ i. sum_over (map col (below (suc k))) (λ j. M i j)) (last_row, all-map (λ i. IsEven (sum_over (map col (below (suc k))) (λ j. M i j))) row k inner_row)

-- an even sum that is not 2 modulo 4 is a multiple of 4
pub four_or_two : (z : ℤ) → IsEven z → IsFour z ⊎ IsTwoModFour z
four_or_two z (k, e) = elim (even_or_odd k) [
  | inl h ↦ inl (h.0, let f = h.1 in omega (arith, sums))
  | inr h ↦ inr (h.0 -ℤ pos 1, let f = h.1 in omega (arith, sums))
]

pub same_below : (n : ℕ) (f g : ℕ → ℤ) → ((i : ℕ) → i < n → f i ≡ g i) → sum_over (below n) f ≡ sum_over (below n) g
same_below zero f g h = refl
same_below (suc n) f g h = rw (h n (omega arith), same_below n f g (λ i l. h i (omega arith))) refl

abbrev pub cycle_sum : (ℕ → ℕ → ℤ) → ℕ → ℕ → (ℕ → ℕ) → (ℕ → ℕ) → ℤ
cycle_sum M t k row col = sum_over (t ∷ map row (below k)) (λ i. sum_over (map col (below (suc k))) (λ j. M i j))

-- the sum by positions
pub by_places : (M : ℕ → ℕ → ℤ) (t k : ℕ) (row col : ℕ → ℕ) → IsCycle M t k row col
    → cycle_sum M t k row col ≡ (M t (col k) +ℤ M t (col 0)) +ℤ sum_over (below k) (λ i. sum_over (below (suc k)) (λ j. M (row i) (col j)))
by_places M t k row col c =
    rw (sum_over-map row (below k) (λ i. sum_over (map col (below (suc k))) (λ j. M i j)), sum_over-map col (below (suc k)) (λ j. M t j), one_term (λ j. M t (col j)) k 0 c.long (λ j m d. c.inner j (omega arith) m))
    (ap (λ (z : ℤ). (M t (col k) +ℤ M t (col 0)) +ℤ z) (same_below k (λ i. sum_over (map col (below (suc k))) (λ j. M (row i) j)) (λ i. sum_over (below (suc k)) (λ j. M (row i) (col j))) (λ i l. sum_over-map col (below (suc k)) (λ j. M (row i) j))))
