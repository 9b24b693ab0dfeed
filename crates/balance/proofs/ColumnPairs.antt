-- Sums of marks: the terms of a sum of 2.
use Rattle.std.proofs.Common.{◌≡◌, ◌≢◌, ◌≤ℤ◌, ◌∙◌, ◌⊎◌, inl, inr, ℕ, ℤ, pos, List, [], ◌∷◌, refl, sym, subst, arith}
use Rattle.cmr_base.specs.Matrix.{IsEntry}
use Rattle.cmr_base.specs.Members.{IsIn}
use Rattle.cmr_base.specs.Signing.{IsSign}
use Rattle.cmr_base.specs.Sums.{sum_over}
use Rattle.cmr_base.proofs.Integers.{sums}
use Rattle.cmr_base.proofs.RowLists.{search_rows}
use Rattle.ghouila.proofs.SignedSums.{zero_or_sign}
use Rattle.balance.proofs.NonzeroCounts.{mark, mark_zero, mark_sign}

mark_least : (z : ℤ) → IsEntry z → pos 0 ≤ℤ mark z
mark_least z small = elim (zero_or_sign z small) [
  | inl e ↦ let k = mark_zero z e in omega (arith, sums)
  | inr u ↦ let k = mark_sign z u in omega (arith, sums)
]

module _ (g : ℕ → ℤ) (small : (x : ℕ) → IsEntry (g x)) where
  sum_least : (xs : List ℕ) → pos 0 ≤ℤ sum_over xs (λ x. mark (g x))
  sum_least [] = omega (arith, sums)
  sum_least (x ∷ xs) = let h = mark_least (g x) (small x) in let k = sum_least xs in omega (arith, sums)

  no_sum : (xs : List ℕ) → ((x : ℕ) → IsIn x xs → g x ≡ pos 0) → sum_over xs (λ x. mark (g x)) ≡ pos 0
  no_sum [] h = refl
  no_sum (x ∷ xs) h = let e = mark_zero (g x) (h x (inl refl)) in let k = no_sum xs (λ y i. h y (inr i)) in omega (arith, sums)

  -- a nonzero sum has a nonzero term
  pub some_nonzero : (xs : List ℕ) → sum_over xs (λ x. mark (g x)) ≢ pos 0 → (x : ℕ) × IsIn x xs × IsSign (g x)
  some_nonzero xs more = go (search_rows (λ x. IsSign (g x)) (λ x. g x ≡ pos 0) sign_or_zero xs)
    where
      sign_or_zero : (x : ℕ) → IsSign (g x) ⊎ (g x ≡ pos 0)
      sign_or_zero x = elim (zero_or_sign (g x) (small x)) [ inl e ↦ inr e | inr u ↦ inl u ]

      go : ((x : ℕ) × IsIn x xs × IsSign (g x)) ⊎ ((x : ℕ) → IsIn x xs → g x ≡ pos 0) → (x : ℕ) × IsIn x xs × IsSign (g x)
      go (inl found) = found
      go (inr none) = absurd (more (no_sum xs none))

  pub one_term : (xs : List ℕ) (a : ℕ) → IsIn a xs → IsSign (g a) → pos 1 ≤ℤ sum_over xs (λ x. mark (g x))
  one_term [] a h u = absurd h
  one_term (x ∷ xs) a (inl e) u = let k = mark_sign (g x) (subst (λ y. IsSign (g y)) e u) in let l = sum_least xs in omega (arith, sums)
  one_term (x ∷ xs) a (inr h) u = let k = mark_least (g x) (small x) in let l = one_term xs a h u in omega (arith, sums)

  two_terms : (xs : List ℕ) (a b : ℕ) → a ≢ b → IsIn a xs → IsIn b xs → IsSign (g a) → IsSign (g b) → pos 2 ≤ℤ sum_over xs (λ x. mark (g x))
  two_terms [] a b apart h k u v = absurd h
  two_terms (x ∷ xs) a b apart (inl e) (inl f) u v = absurd (apart (e ∙ sym f))
  two_terms (x ∷ xs) a b apart (inl e) (inr k) u v = let l = mark_sign (g x) (subst (λ y. IsSign (g y)) e u) in let n = one_term xs b k v in omega (arith, sums)
  two_terms (x ∷ xs) a b apart (inr h) (inl f) u v = let l = mark_sign (g x) (subst (λ y. IsSign (g y)) f v) in let n = one_term xs a h u in omega (arith, sums)
  two_terms (x ∷ xs) a b apart (inr h) (inr k) u v = let l = mark_least (g x) (small x) in let n = two_terms xs a b apart h k u v in omega (arith, sums)

  three_terms : (xs : List ℕ) (a b c : ℕ) → a ≢ b → a ≢ c → b ≢ c → IsIn a xs → IsIn b xs → IsIn c xs → IsSign (g a) → IsSign (g b) → IsSign (g c) → pos 3 ≤ℤ sum_over xs (λ x. mark (g x))
  three_terms [] a b c ab ac bc h k l u v w = absurd h
  three_terms (x ∷ xs) a b c ab ac bc (inl e) (inl f) l u v w = absurd (ab (e ∙ sym f))
  three_terms (x ∷ xs) a b c ab ac bc (inl e) (inr k) (inl d) u v w = absurd (ac (e ∙ sym d))
  three_terms (x ∷ xs) a b c ab ac bc (inl e) (inr k) (inr l) u v w = let o = mark_sign (g x) (subst (λ y. IsSign (g y)) e u) in let n = two_terms xs b c bc k l v w in omega (arith, sums)
  three_terms (x ∷ xs) a b c ab ac bc (inr h) (inl f) (inl d) u v w = absurd (bc (f ∙ sym d))
  three_terms (x ∷ xs) a b c ab ac bc (inr h) (inl f) (inr l) u v w = let o = mark_sign (g x) (subst (λ y. IsSign (g y)) f v) in let n = two_terms xs a c ac h l u w in omega (arith, sums)
  three_terms (x ∷ xs) a b c ab ac bc (inr h) (inr k) (inl d) u v w = let o = mark_sign (g x) (subst (λ y. IsSign (g y)) d w) in let n = two_terms xs a b ab h k u v in omega (arith, sums)
  three_terms (x ∷ xs) a b c ab ac bc (inr h) (inr k) (inr l) u v w = let o = mark_least (g x) (small x) in let n = three_terms xs a b c ab ac bc h k l u v w in omega (arith, sums)

  -- a line with two nonzeros is 0 at any third item
  pub third_zero : (xs : List ℕ) → sum_over xs (λ x. mark (g x)) ≡ pos 2 → (a b c : ℕ) → a ≢ b → a ≢ c → b ≢ c → IsIn a xs → IsIn b xs → IsIn c xs → IsSign (g a) → IsSign (g b) → g c ≡ pos 0
  third_zero xs e a b c ab ac bc h k l u v = elim (zero_or_sign (g c) (small c)) [
    | inl z ↦ z
    | inr w ↦ let n = three_terms xs a b c ab ac bc h k l u v w in absurd (omega (arith, sums))
  ]
