-- Products of signs, and sums of two signs modulo four.
use Rattle.std.proofs.Common.{◌≡◌, ◌⊎◌, inl, inr, ◌∙◌, ℤ, pos, negsuc, neg_ℤ, ◌+ℤ◌, ◌*ℤ◌, ◌-ℤ◌, sym, refl, arith}
use Rattle.cmr_base.specs.Signing.{IsSign}
use Rattle.cmr_base.specs.Sums.{IsTwoModFour}
use Rattle.cmr_base.proofs.Integers.{sums, products, mul_comm}
use Rattle.cmr_base.proofs.Parity.{IsFour}
pub use Rattle.cmr_base.proofs.SignEntries.{sign-mul, sign_nonzero, sign_square}

-- a sum of two signs is 2 modulo 4 if they are equal, otherwise 0
pub pair_kind : (x y : ℤ) → IsSign x → IsSign y → ((x ≡ y) × IsTwoModFour (x +ℤ y)) ⊎ ((x ≡ neg_ℤ y) × (x +ℤ y ≡ pos 0))
pair_kind x y (inl e) (inl f) = inl (e ∙ sym f, (pos 0, rw (e, f) refl))
pair_kind x y (inl e) (inr f) = inr (rw (e, f) refl, rw (e, f) refl)
pair_kind x y (inr e) (inl f) = inr (rw (e, f) refl, rw (e, f) refl)
pair_kind x y (inr e) (inr f) = inl (e ∙ sym f, (negsuc 0, rw (e, f) refl))

negated_differs : (b y : ℤ) → IsSign b → IsSign y → b *ℤ neg_ℤ y ≡ b *ℤ y → ⊥
negated_differs b y (inl e) (inl f) q = let p : b *ℤ neg_ℤ y ≡ negsuc 0 = rw (e, f) refl in let r : b *ℤ y ≡ pos 1 = rw (e, f) refl in omega (arith, sums)
negated_differs b y (inl e) (inr f) q = let p : b *ℤ neg_ℤ y ≡ pos 1 = rw (e, f) refl in let r : b *ℤ y ≡ negsuc 0 = rw (e, f) refl in omega (arith, sums)
negated_differs b y (inr e) (inl f) q = let p : b *ℤ neg_ℤ y ≡ pos 1 = rw (e, f) refl in let r : b *ℤ y ≡ negsuc 0 = rw (e, f) refl in omega (arith, sums)
negated_differs b y (inr e) (inr f) q = let p : b *ℤ neg_ℤ y ≡ negsuc 0 = rw (e, f) refl in let r : b *ℤ y ≡ pos 1 = rw (e, f) refl in omega (arith, sums)

-- sums of signs with equal products differ by a multiple of 4
pub products_four : (a b x y : ℤ) → IsSign a → IsSign b → IsSign x → IsSign y → a *ℤ x ≡ b *ℤ y → IsFour ((a +ℤ b) -ℤ (x +ℤ y))
products_four a b x y u v w z q = go (pair_kind a b u v) (pair_kind x y w z)
  where
    go : ((a ≡ b) × IsTwoModFour (a +ℤ b)) ⊎ ((a ≡ neg_ℤ b) × (a +ℤ b ≡ pos 0)) → ((x ≡ y) × IsTwoModFour (x +ℤ y)) ⊎ ((x ≡ neg_ℤ y) × (x +ℤ y ≡ pos 0)) → IsFour ((a +ℤ b) -ℤ (x +ℤ y))
    go (inl (e, (k, i))) (inl (f, (l, j))) = (k -ℤ l, omega (arith, sums))
    go (inr (e, i)) (inr (f, j)) = (pos 0, omega (arith, sums))
    go (inl (e, i)) (inr (f, j)) = absurd (let p : a *ℤ x ≡ b *ℤ neg_ℤ y = rw (e, f) refl in negated_differs b y v z (sym p ∙ q))
    go (inr (e, i)) (inl (f, j)) = absurd (let p : a *ℤ x ≡ neg_ℤ b *ℤ y = rw (e, f) refl in negated_differs y b z v (mul_comm y (neg_ℤ b) ∙ sym p ∙ q ∙ mul_comm b y))

-- signs whose sums differ by a multiple of 4 have equal products
pub four_products : (a b x y : ℤ) → IsSign a → IsSign b → IsSign x → IsSign y → IsFour ((a +ℤ b) -ℤ (x +ℤ y)) → a *ℤ x ≡ b *ℤ y
four_products a b x y u v w z (k, q) = go (pair_kind a b u v) (pair_kind x y w z)
  where
    neg_two : (a x : ℤ) → neg_ℤ a *ℤ neg_ℤ x ≡ a *ℤ x
    neg_two a x = simp products (omega (arith, sums))

    go : ((a ≡ b) × IsTwoModFour (a +ℤ b)) ⊎ ((a ≡ neg_ℤ b) × (a +ℤ b ≡ pos 0)) → ((x ≡ y) × IsTwoModFour (x +ℤ y)) ⊎ ((x ≡ neg_ℤ y) × (x +ℤ y ≡ pos 0)) → a *ℤ x ≡ b *ℤ y
    go (inl (e, i)) (inl (f, j)) = rw (e, f) refl
    go (inr (e, i)) (inr (f, j)) = rw (e, f) (neg_two b y)
    go (inl (e, (l, i))) (inr (f, j)) = absurd (omega (arith, sums))
    go (inr (e, i)) (inl (f, (l, j))) = absurd (omega (arith, sums))

-- signs are equal if they cannot differ
pub signs_stable : (x y : ℤ) → IsSign x → IsSign y → ((x ≡ y → ⊥) → ⊥) → x ≡ y
signs_stable x y (inl e) (inl f) h = e ∙ sym f
signs_stable x y (inr e) (inr f) h = e ∙ sym f
signs_stable x y (inl e) (inr f) h = absurd (h (λ g. omega (arith, sums)))
signs_stable x y (inr e) (inl f) h = absurd (h (λ g. omega (arith, sums)))
