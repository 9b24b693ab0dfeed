-- A cycle whose sum is not 2 modulo 4 in two matrices: if their ratios agree in each row except the last, they agree in the last row.
use Rattle.std.proofs.Common.{◌≡◌, ◌<◌, ◌⊎◌, inl, inr, ℕ, zero, suc, ℤ, pos, ◌+ℤ◌, ◌*ℤ◌, ◌-ℤ◌, List, ◌∷◌, map, sym, refl, subst, arith}
use Rattle.std.specs.List.{AllByRecursion}
use Rattle.cmr_base.specs.Signing.{IsSign}
use Rattle.cmr_base.specs.Sums.{sum_over, IsEven, IsTwoModFour}
use Rattle.cmr_base.proofs.Integers.{sums, products}
use Rattle.cmr_base.proofs.Parity.{IsFour}
use Rattle.cmr_base.proofs.SumLaws.{sum_over-exchange, sum_over-scale, sum_over_same}
use Rattle.cmr_base.proofs.Lists.{all_of}
use Rattle.ghouila.proofs.SignedSums.{four_change-signed}
use Rattle.ghouila.proofs.SignProducts.{sign-mul, products_four, four_products}
use Rattle.ghouila.proofs.Cycles.{below, IsCycle, rows_even, two_terms, all-map, column_even, four_or_two, by_places, cycle_sum}

four_change-below : (n : ℕ) (f g : ℕ → ℤ) → ((i : ℕ) → i < n → IsFour (f i -ℤ g i)) → IsFour (sum_over (below n) f -ℤ sum_over (below n) g)
four_change-below zero f g h = (pos 0, refl)
four_change-below (suc n) f g h = plain (f n) (g n) (sum_over (below n) f) (sum_over (below n) g) (h n (omega arith)) (four_change-below n f g (λ i l. h i (omega arith)))
  where
    plain : (a b x y : ℤ) → IsFour (a -ℤ b) → IsFour (x -ℤ y) → IsFour ((a +ℤ x) -ℤ (b +ℤ y))
    plain a b x y (k, e) (l, f) = (k +ℤ l, omega (arith, sums))

-- columns with even sums: signs of the columns change the whole sum by a multiple of 4
pub four_change-columns : (M : ℕ → ℕ → ℤ) (s : ℕ → ℤ) (R C : List ℕ) → ((j : ℕ) → IsSign (s j)) → AllByRecursion (λ j. IsEven (sum_over R (λ i. M i j))) C
    → IsFour (sum_over R (λ i. sum_over C (λ j. M i j)) -ℤ sum_over R (λ i. sum_over C (λ j. s j *ℤ M i j)))
four_change-columns M s R C signs even =
    subst (λ (z : ℤ). IsFour (z -ℤ sum_over R (λ i. sum_over C (λ j. s j *ℤ M i j)))) (sym (sum_over-exchange R C M))
    (subst (λ (z : ℤ). IsFour (sum_over C (λ j. sum_over R (λ i. M i j)) -ℤ z)) (sym (sum_over-exchange R C (λ i j. s j *ℤ M i j)))
    (subst (λ (z : ℤ). IsFour (sum_over C (λ j. sum_over R (λ i. M i j)) -ℤ z)) (sym (sum_over_same C (λ j. sum_over R (λ i. s j *ℤ M i j)) (λ j. s j *ℤ sum_over R (λ i. M i j)) (all_of _ (λ j. sum_over-scale R (s j) (λ i. M i j)) C)))
    (four_change-signed s C (λ j. sum_over R (λ i. M i j)) (all_of _ signs C) even)))

zero_right : (s x : ℤ) → x ≡ pos 0 → s *ℤ x ≡ pos 0
zero_right s x e = rw e (simp products)

-- the same cycle after its columns are multiplied by signs
signed_cycle : (M : ℕ → ℕ → ℤ) (s : ℕ → ℤ) (t k : ℕ) (row col : ℕ → ℕ) → ((j : ℕ) → IsSign (s j)) → IsCycle M t k row col → IsCycle (λ i j. s j *ℤ M i j) t k row col
signed_cycle M s t k row col signs c = record {
  long = c.long;
  here = λ i l. sign-mul (s (col i)) (M (row i) (col i)) (signs (col i)) (c.here i l);
  next = λ i l. sign-mul (s (col (suc i))) (M (row i) (col (suc i))) (signs (col (suc i))) (c.next i l);
  none = λ i j l m d e. zero_right (s (col j)) (M (row i) (col j)) (c.none i j l m d e);
  first = sign-mul (s (col 0)) (M t (col 0)) (signs (col 0)) c.first;
  last = sign-mul (s (col k)) (M t (col k)) (signs (col k)) c.last;
  inner = λ j l m. zero_right (s (col j)) (M t (col j)) (c.inner j l m);
}

-- two cycles on the same lines, with one ratio in each row except t
module _ (M N : ℕ → ℕ → ℤ) (t k : ℕ) (row col : ℕ → ℕ) (c : IsCycle M t k row col) (d : IsCycle N t k row col)
    (ratios : (i : ℕ) → i < k → M (row i) (col (suc i)) *ℤ N (row i) (col (suc i)) ≡ M (row i) (col i) *ℤ N (row i) (col i)) where
  four_change-inside : IsFour (sum_over (below k) (λ i. sum_over (below (suc k)) (λ j. M (row i) (col j))) -ℤ sum_over (below k) (λ i. sum_over (below (suc k)) (λ j. N (row i) (col j))))
  four_change-inside = four_change-below k (λ i. sum_over (below (suc k)) (λ j. M (row i) (col j))) (λ i. sum_over (below (suc k)) (λ j. N (row i) (col j)))
      (λ i l. rw (two_terms (λ j. M (row i) (col j)) (suc k) i (omega arith) (λ j m a b. c.none i j l (omega arith) a b), two_terms (λ j. N (row i) (col j)) (suc k) i (omega arith) (λ j m a b. d.none i j l (omega arith) a b))
      (products_four (M (row i) (col (suc i))) (M (row i) (col i)) (N (row i) (col (suc i))) (N (row i) (col i)) (c.next i l) (c.here i l) (d.next i l) (d.here i l) (ratios i l)))

  last_ratio : IsFour (cycle_sum M t k row col) → IsFour (cycle_sum N t k row col) → M t (col k) *ℤ N t (col k) ≡ M t (col 0) *ℤ N t (col 0)
  last_ratio e f = four_products (M t (col k)) (M t (col 0)) (N t (col k)) (N t (col 0)) c.last c.first d.last d.first
      (plain (cycle_sum M t k row col) (cycle_sum N t k row col) (M t (col k)) (M t (col 0)) (N t (col k)) (N t (col 0))
      (sum_over (below k) (λ i. sum_over (below (suc k)) (λ j. M (row i) (col j)))) (sum_over (below k) (λ i. sum_over (below (suc k)) (λ j. N (row i) (col j))))
      (by_places M t k row col c) (by_places N t k row col d) four_change-inside e f)
    where
      plain : (s r a b x y p q : ℤ) → s ≡ (a +ℤ b) +ℤ p → r ≡ (x +ℤ y) +ℤ q → IsFour (p -ℤ q) → IsFour s → IsFour r → IsFour ((a +ℤ b) -ℤ (x +ℤ y))
      plain s r a b x y p q e f (k, g) (l, h) (m, i) = ((l -ℤ m) -ℤ k, omega (arith, sums))

-- the ratio of two matrices, with the columns of the first multiplied by signs
abbrev pub ratio : (M N : ℕ → ℕ → ℤ) (s : ℕ → ℤ) → ℕ → ℕ → ℤ
ratio M N s i j = (s j *ℤ M i j) *ℤ N i j

pub cycle_ratio : (M N : ℕ → ℕ → ℤ) (s : ℕ → ℤ) (t k : ℕ) (row col : ℕ → ℕ) → ((j : ℕ) → IsSign (s j)) → IsCycle M t k row col → IsCycle N t k row col
    → ((i : ℕ) → i < k → ratio M N s (row i) (col (suc i)) ≡ ratio M N s (row i) (col i))
    → (IsTwoModFour (cycle_sum M t k row col) → ⊥) → (IsTwoModFour (cycle_sum N t k row col) → ⊥)
    → ratio M N s t (col k) ≡ ratio M N s t (col 0)
cycle_ratio M N s t k row col signs c d ratios bad_m bad_n = decide (four_or_two (cycle_sum M t k row col) (rows_even M t k row col c)) (four_or_two (cycle_sum N t k row col) (rows_even N t k row col d))
  where
    less : (x y : ℤ) → IsFour x → IsFour (x -ℤ y) → IsFour y
    less x y (k, e) (l, f) = (k -ℤ l, omega (arith, sums))

    decide : IsFour (cycle_sum M t k row col) ⊎ IsTwoModFour (cycle_sum M t k row col)
        → IsFour (cycle_sum N t k row col) ⊎ IsTwoModFour (cycle_sum N t k row col) → ratio M N s t (col k) ≡ ratio M N s t (col 0)
    decide (inr z) w = absurd (bad_m z)
    decide (inl z) (inr w) = absurd (bad_n w)
    decide (inl z) (inl w) = last_ratio (λ i j. s j *ℤ M i j) N t k row col (signed_cycle M s t k row col signs c) d ratios
        (less (cycle_sum M t k row col) (cycle_sum (λ i j. s j *ℤ M i j) t k row col) z
        (four_change-columns M s (t ∷ map row (below k)) (map col (below (suc k))) signs (all-map (λ j. IsEven (sum_over (t ∷ map row (below k)) (λ i. M i j))) col (suc k) (column_even M t k row col c))))
        w
