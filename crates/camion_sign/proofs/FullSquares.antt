-- Full 2 by 2 submatrices. Their rows are compared with the first row that has both columns.
use Rattle.std.proofs.Common.{ℕ, suc, ℤ, pos, List, [], ◌∷◌, ◌≡◌, ◌≢◌, ◌<◌, ◌≤◌, ◌+ℤ◌, ◌*ℤ◌, neg_ℤ, ◌∙◌, sym, ap, refl, arith, subst, ◌⊎◌, inl, inr, length}
use Rattle.std.proofs.lemmas.Bool.{cases_lt}
use Rattle.cmr_base.specs.Sums.{IsTwoModFour}
use Rattle.cmr_base.specs.Signing.{IsSign}
use Rattle.cmr_base.specs.Matrix.{Matrix, IsEntry, HasTernaryEntries}
use Rattle.cmr_base.proofs.Integers.{sums, products}
use Rattle.ghouila.proofs.SignedSums.{zero_or_sign}
use Rattle.cmr_base.specs.CyclePlaces.{IsPath, IsNotAfter, IsCyclePlace, HasNoCycleFault}
use Rattle.cmr_base.specs.Matrix.{entry}
use Rattle.camion_sign.specs.Laws.{IsFullSquare}
use Rattle.ghouila.proofs.SignProducts.{sign-mul, sign_square, pair_kind, signs_stable}
use Rattle.ghouila.proofs.LeastLists.{least_number}

-- four units whose sum is not 2 modulo 4
four_units : (a b x y : ℤ) → IsSign a → IsSign b → IsSign x → IsSign y → (IsTwoModFour ((a +ℤ (b +ℤ pos 0)) +ℤ ((x +ℤ (y +ℤ pos 0)) +ℤ pos 0)) → ⊥) → a *ℤ b ≡ x *ℤ y
four_units a b x y u v w z not_two = go (pair_kind a b u v) (pair_kind x y w z)
  where
    neg : (b y : ℤ) → IsSign b → IsSign y → neg_ℤ b *ℤ b ≡ neg_ℤ y *ℤ y
    neg b y (inl e) (inl f) = rw (e, f) refl
    neg b y (inl e) (inr f) = rw (e, f) refl
    neg b y (inr e) (inl f) = rw (e, f) refl
    neg b y (inr e) (inr f) = rw (e, f) refl

    go : ((a ≡ b) × IsTwoModFour (a +ℤ b)) ⊎ ((a ≡ neg_ℤ b) × (a +ℤ b ≡ pos 0)) → ((x ≡ y) × IsTwoModFour (x +ℤ y)) ⊎ ((x ≡ neg_ℤ y) × (x +ℤ y ≡ pos 0)) → a *ℤ b ≡ x *ℤ y
    go (inl (e, i)) (inl (f, j)) = rw (e, f) (sign_square b v ∙ sym (sign_square y z))
    go (inr (e, i)) (inr (f, j)) = rw (e, f) (neg b y v z)
    go (inl (e, (l, i))) (inr (f, j)) = absurd (not_two (l, omega (arith, sums)))
    go (inr (e, i)) (inl (f, (l, j))) = absurd (not_two (l, omega (arith, sums)))

module _ (M : ℕ → ℕ → ℤ) (small : (i j : ℕ) → IsEntry (M i j)) (clean : HasNoCycleFault M) where
  unit : (i j : ℕ) → M i j ≢ pos 0 → IsSign (M i j)
  unit i j h = elim (zero_or_sign (M i j) (small i j)) [ inl z ↦ absurd (h z) | inr u ↦ u ]

  -- the row has both columns
  abbrev Both : ℕ → ℕ → ℕ → Type 0
  Both c d i = (M i c ≢ pos 0) × (M i d ≢ pos 0)

  -- the first such row is the path of a later one
  first_row : (c d f t : ℕ) → c < d → f < t → Both c d f → Both c d t → ((i : ℕ) → Both c d i → f ≤ i) → IsCyclePlace M t c d (f ∷ [])
  first_row c d f t l m a b low = record { order = l; first = b.0; last = b.1; is_path = (m, a.0, a.1); least = least }
    where
      least : (other : List ℕ) → IsPath M t c d other → (1 < length other) ⊎ ((1 ≡ length other) × IsNotAfter (f ∷ []) other)
      least [] h = absurd h
      least (r ∷ []) (k, x, y) = let le : f ≤ r = low r (x, y) in inr (refl, elim (cases_lt f r) [ inl lt ↦ inl lt | inr ge ↦ inr (omega arith, tt) ])
      least (r ∷ j ∷ rest) h = inl (omega arith)

  with_first : (c d f t : ℕ) → c < d → Both c d f → Both c d t → ((i : ℕ) → Both c d i → f ≤ i) → M t c *ℤ M t d ≡ M f c *ℤ M f d
  with_first c d f t l a b low = elim (cases_lt f t) [
    | inl lt ↦ four_units (M t c) (M t d) (M f c) (M f d) (unit t c b.0) (unit t d b.1) (unit f c a.0) (unit f d a.1)
        (λ two. clean t c d (f ∷ []) (record { place = first_row c d f t l lt a b low; two_mod_four = two }))
    | inr ge ↦ let le : f ≤ t = low t b in let e : t ≡ f = omega arith in ap (λ (i : ℕ). M i c *ℤ M i d) e
  ]

  in_order : (c d i k : ℕ) → c < d → Both c d i → Both c d k → M i c *ℤ M i d ≡ M k c *ℤ M k d
  in_order c d i k l a b = signs_stable (M i c *ℤ M i d) (M k c *ℤ M k d) (sign-mul (M i c) (M i d) (unit i c a.0) (unit i d a.1)) (sign-mul (M k c) (M k d) (unit k c b.0) (unit k d b.1))
      (λ differ. least_number (Both c d) (suc i) i (omega arith) a
      (λ f g low. differ (with_first c d f i l g a low ∙ sym (with_first c d f k l g b low))))

  pub full_two : (i k c d : ℕ) → Both c d i → Both c d k → (M i c *ℤ M i d) *ℤ (M k c *ℤ M k d) ≡ pos 1
  full_two i k c d a b = ap (λ (z : ℤ). z *ℤ (M k c *ℤ M k d)) same ∙ sign_square (M k c *ℤ M k d) (sign-mul (M k c) (M k d) (unit k c b.0) (unit k d b.1))
    where
      flip : (a b x y : ℤ) → b *ℤ a ≡ y *ℤ x → a *ℤ b ≡ x *ℤ y
      flip a b x y e = order a b ∙ e ∙ order y x
        where
          order : (a b : ℤ) → a *ℤ b ≡ b *ℤ a
          order a b = simp products

      same : M i c *ℤ M i d ≡ M k c *ℤ M k d
      same = elim (cases_lt c d) [
        | inl lt ↦ in_order c d i k lt a b
        | inr ge ↦ elim (cases_lt d c) [
          | inl lt ↦ flip (M i c) (M i d) (M k c) (M k d) (in_order d c i k lt (a.1, a.0) (b.1, b.0))
          | inr ge' ↦ let e : d ≡ c = omega arith in
              subst (λ (x : ℕ). M i c *ℤ M i x ≡ M k c *ℤ M k x) (sym e) (sign_square (M i c) (unit i c a.0) ∙ sym (sign_square (M k c) (unit k c b.0)))
        ]
      ]

pub full_squares : (m : Matrix) → HasTernaryEntries m → HasNoCycleFault (entry m) → (i k c d : ℕ) → IsFullSquare m i k c d → (entry m i c *ℤ entry m i d) *ℤ (entry m k c *ℤ entry m k d) ≡ pos 1
full_squares m small clean i k c d s = full_two (entry m) small clean i k c d (s.upper_left, s.upper_right) (s.lower_left, s.lower_right)
