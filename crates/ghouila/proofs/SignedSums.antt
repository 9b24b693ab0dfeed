-- Sums in which each item has a sign.
use Rattle.std.proofs.Common.{◌≡◌, ◌≢◌, ◌⊎◌, inl, inr, ◌∙◌, ℕ, ℤ, pos, neg_ℤ, ◌+ℤ◌, ◌*ℤ◌, ◌-ℤ◌, List, [], ◌∷◌, refl, ap, sym, subst, arith}
use Rattle.std.specs.List.{AllByRecursion}
use Rattle.cmr_base.specs.Matrix.{IsEntry}
use Rattle.cmr_base.specs.Signing.{IsSign}
use Rattle.cmr_base.specs.Sums.{sum_over, IsEven, IsOdd}
use Rattle.cmr_base.proofs.Integers.{sums, products}
use Rattle.cmr_base.proofs.Parity.{IsFour, odd_by_difference}
use Rattle.cmr_base.proofs.SumLaws.{sum_over-scale, sum_over-exchange, sum_over_same}
use Rattle.cmr_base.proofs.Lists.{all_of}
use Rattle.cmr_base.specs.PlacedPivots.{pivoted}
use Rattle.ghouila.proofs.PivotSums.{pivoted_apart, pivoted_at}
pub use Rattle.cmr_base.proofs.SignEntries.{zero_is_entry as entry_zero, sign_is_entry, zero_or_sign}

abbrev pub signed : {A : Type 0} → (A → ℤ) → List A → (A → ℤ) → ℤ
signed sign xs f = sum_over xs (λ x. sign x *ℤ f x)

pub odd_entry : (z : ℤ) → IsEntry z → IsOdd z → IsSign z
odd_entry z h odd = go (zero_or_sign z h) odd
  where
    none : (z : ℤ) → z ≡ pos 0 → IsOdd z → ⊥
    none z e (k, f) = omega (arith, sums)

    go : (z ≡ pos 0) ⊎ IsSign z → IsOdd z → IsSign z
    go (inl e) odd = absurd (none z e odd)
    go (inr s) odd = s

pub even_entry : (z : ℤ) → IsEntry z → IsEven z → z ≡ pos 0
even_entry z h (k, e) = let low = h.low in let high = h.high in omega (arith, sums)

-- signs change a sum by an even number
pub even_change-signed : {A : Type 0} (sign : A → ℤ) (xs : List A) (f : A → ℤ) → AllByRecursion (λ x. IsSign (sign x)) xs → IsEven (sum_over xs f -ℤ signed sign xs f)
even_change-signed sign [] f u = (pos 0, refl)
even_change-signed sign (x ∷ xs) f u = add (f x) (sign x) (sum_over xs f) (signed sign xs f) u.0 (even_change-signed sign xs f u.1)
  where
    add : (x s y w : ℤ) → IsSign s → IsEven (y -ℤ w) → IsEven ((x +ℤ y) -ℤ (s *ℤ x +ℤ w))
    add x s y w (inl e) (k, h) = (k, rw e (simp products (omega (arith, sums))))
    add x s y w (inr e) (k, h) = (x +ℤ k, rw e (simp products (omega (arith, sums))))

-- signs change a sum of even numbers by a multiple of four
pub four_change-signed : {A : Type 0} (sign : A → ℤ) (xs : List A) (f : A → ℤ) → AllByRecursion (λ x. IsSign (sign x)) xs
    → AllByRecursion (λ x. IsEven (f x)) xs → IsFour (sum_over xs f -ℤ signed sign xs f)
four_change-signed sign [] f u even = (pos 0, refl)
four_change-signed sign (x ∷ xs) f u even = add (f x) (sign x) (sum_over xs f) (signed sign xs f) u.0 even.0 (four_change-signed sign xs f u.1 even.1)
  where
    add : (x s y w : ℤ) → IsSign s → IsEven x → IsFour (y -ℤ w) → IsFour ((x +ℤ y) -ℤ (s *ℤ x +ℤ w))
    add x s y w (inl e) (l, g) (k, h) = (k, rw e (simp products (omega (arith, sums))))
    add x s y w (inr e) (l, g) (k, h) = (l +ℤ k, rw e (simp products (omega (arith, sums))))

pub signed-sum_over : {A : Type 0} (sign : A → ℤ) (xs : List A) (columns : List ℕ) (M : A → ℕ → ℤ) → signed sign xs (λ x. sum_over columns (M x)) ≡ sum_over columns (λ j. signed sign xs (λ x. M x j))
signed-sum_over sign xs columns M =
    sum_over_same xs (λ x. sign x *ℤ sum_over columns (M x)) (λ x. sum_over columns (λ j. sign x *ℤ M x j)) (all_of _ (λ x. sym (sum_over-scale columns (sign x) (M x))) xs)
    ∙ sum_over-exchange xs columns (λ x j. sign x *ℤ M x j)

-- ---- the signed sums after a pivot

pub signed_pivoted : {A : Type 0} (sign : A → ℤ) (row : A → ℕ) (M : ℕ → ℕ → ℤ) (r c j : ℕ) (xs : List A) → j ≢ c
    → signed sign xs (λ x. pivoted M r c (row x) j) ≡ signed sign xs (λ x. M (row x) j) -ℤ M r c *ℤ (signed sign xs (λ x. M (row x) c) *ℤ M r j)
signed_pivoted sign row M r c j [] other = simp products
signed_pivoted sign row M r c j (x ∷ xs) other = rw (pivoted_apart M r c (row x) j other, signed_pivoted sign row M r c j xs other)
    (add (sign x) (M (row x) j) (M r c) (M (row x) c) (M r j) (signed sign xs (λ y. M (row y) j)) (signed sign xs (λ y. M (row y) c)))
  where
    add : (s x a p q w v : ℤ) → s *ℤ (x -ℤ a *ℤ (p *ℤ q)) +ℤ (w -ℤ a *ℤ (v *ℤ q)) ≡ (s *ℤ x +ℤ w) -ℤ a *ℤ ((s *ℤ p +ℤ v) *ℤ q)
    add s x a p q w v = simp products (omega (arith, sums))

pub signed_pivot_column : {A : Type 0} (sign : A → ℤ) (row : A → ℕ) (M : ℕ → ℕ → ℤ) (r c : ℕ) (xs : List A)
    → signed sign xs (λ x. pivoted M r c (row x) c) ≡ neg_ℤ (M r c *ℤ signed sign xs (λ x. M (row x) c))
signed_pivot_column sign row M r c [] = simp products
signed_pivot_column sign row M r c (x ∷ xs) = rw (pivoted_at M r c (row x), signed_pivot_column sign row M r c xs) (add (sign x) (M r c) (M (row x) c) (signed sign xs (λ y. M (row y) c)))
  where
    add : (s a p w : ℤ) → s *ℤ neg_ℤ (a *ℤ p) +ℤ neg_ℤ (a *ℤ w) ≡ neg_ℤ (a *ℤ (s *ℤ p +ℤ w))
    add s a p w = simp products (omega (arith, sums))

-- the removed row gets the signed sum of the pivot's column; then that column's sum is 0 and the other columns keep their sums
module _ {A : Type 0} (sign : A → ℤ) (row : A → ℕ) (M : ℕ → ℕ → ℤ) (r c : ℕ) (xs : List A) (u : IsSign (M r c)) where
  pub pivot_sign : AllByRecursion (λ x. IsSign (sign x)) xs → IsOdd (sum_over xs (λ x. M (row x) c)) → IsEntry (signed sign xs (λ x. pivoted M r c (row x) c))
      → IsSign (signed sign xs (λ x. pivoted M r c (row x) c))
  pivot_sign signs odd entry = odd_entry _ entry (subst IsOdd (sym (signed_pivot_column sign row M r c xs))
      (odd_times_sign (M r c) (signed sign xs (λ x. M (row x) c)) u
      (odd_by_difference (sum_over xs (λ x. M (row x) c)) (signed sign xs (λ x. M (row x) c)) (even_change-signed sign xs (λ x. M (row x) c) signs) odd)))
    where
      odd_times_sign : (a w : ℤ) → IsSign a → IsOdd w → IsOdd (neg_ℤ (a *ℤ w))
      odd_times_sign a w (inl e) (k, f) = (pos 1 -ℤ k, rw e (simp products (omega (arith, sums))))
      odd_times_sign a w (inr e) (k, f) = (k, rw e (simp products (omega (arith, sums))))

  pub pivot_column_vanishes : signed sign xs (λ x. pivoted M r c (row x) c) *ℤ M r c +ℤ signed sign xs (λ x. M (row x) c) ≡ pos 0
  pivot_column_vanishes = ap (λ z. z *ℤ M r c +ℤ signed sign xs (λ x. M (row x) c)) (signed_pivot_column sign row M r c xs) ∙ gone (M r c) (signed sign xs (λ x. M (row x) c)) u
    where
      gone : (a w : ℤ) → IsSign a → neg_ℤ (a *ℤ w) *ℤ a +ℤ w ≡ pos 0
      gone a w (inl e) = rw e (simp products (omega (arith, sums)))
      gone a w (inr e) = rw e (simp products (omega (arith, sums)))

  pub column_keeps_sum : (j : ℕ) → j ≢ c → signed sign xs (λ x. pivoted M r c (row x) c) *ℤ M r j +ℤ signed sign xs (λ x. M (row x) j) ≡ signed sign xs (λ x. pivoted M r c (row x) j)
  column_keeps_sum j other =
      ap (λ z. z *ℤ M r j +ℤ signed sign xs (λ x. M (row x) j)) (signed_pivot_column sign row M r c xs)
      ∙ arranged (signed sign xs (λ x. M (row x) j)) (M r c) (signed sign xs (λ x. M (row x) c)) (M r j)
      ∙ sym (signed_pivoted sign row M r c j xs other)
    where
      arranged : (x a w q : ℤ) → neg_ℤ (a *ℤ w) *ℤ q +ℤ x ≡ x -ℤ a *ℤ (w *ℤ q)
      arranged x a w q = simp products (omega (arith, sums))

-- ---- a row that is put aside

pub aside_entry : {A : Type 0} (sign : A → ℤ) (xs : List A) (f : A → ℤ) (z : ℤ) → AllByRecursion (λ x. IsSign (sign x)) xs → IsEntry z → IsEntry (signed sign xs f)
    → (z ≡ pos 0) ⊎ IsEven (sum_over xs f) → IsEntry (z +ℤ signed sign xs f)
aside_entry sign xs f z signs small entry quiet = go z (sum_over xs f) (signed sign xs f) quiet (even_change-signed sign xs f signs) small entry
  where
    go : (z x w : ℤ) → (z ≡ pos 0) ⊎ IsEven x → IsEven (x -ℤ w) → IsEntry z → IsEntry w → IsEntry (z +ℤ w)
    go z x w (inl e) even small entry = record { low = let l = entry.low in omega (arith, sums); high = let h = entry.high in omega (arith, sums) }
    go z x w (inr (l, f)) (k, e) small entry =
        let zero : w ≡ pos 0 = even_entry w entry (l -ℤ k, omega (arith, sums)) in
        record { low = let l = small.low in omega (arith, sums); high = let h = small.high in omega (arith, sums) }
