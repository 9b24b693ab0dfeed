-- The entries after a pivot: they are -1, 0 and 1, or four entries are a violator.
use Rattle.std.proofs.Common.{◌≡◌, ◌⊎◌, inl, inr, ℕ, ℤ, pos, negsuc, neg_ℤ, ◌+ℤ◌, ◌*ℤ◌, ◌-ℤ◌, [], ◌∷◌, refl, subst, arith}
use Rattle.cmr_base.specs.Matrix.{IsEntry}
use Rattle.cmr_base.specs.Signing.{IsSign}
use Rattle.cmr_base.specs.Violator.{IsViolator}
use Rattle.cmr_base.specs.Sums.{IsEven, IsTwoModFour}
use Rattle.cmr_base.proofs.Integers.{sums, products}
use Rattle.ghouila.specs.Pivot.{IsSquareViolator}
use Rattle.ghouila.proofs.SignedSums.{zero_or_sign}

sign-product : (a p q : ℤ) → IsSign a → IsSign p → IsSign q → IsSign (a *ℤ (p *ℤ q))
sign-product a p q (inl e) (inl f) (inl g) = inl (rw (e, f, g) refl)
sign-product a p q (inl e) (inl f) (inr g) = inr (rw (e, f, g) refl)
sign-product a p q (inl e) (inr f) (inl g) = inr (rw (e, f, g) refl)
sign-product a p q (inl e) (inr f) (inr g) = inl (rw (e, f, g) refl)
sign-product a p q (inr e) (inl f) (inl g) = inr (rw (e, f, g) refl)
sign-product a p q (inr e) (inl f) (inr g) = inl (rw (e, f, g) refl)
sign-product a p q (inr e) (inr f) (inl g) = inl (rw (e, f, g) refl)
sign-product a p q (inr e) (inr f) (inr g) = inr (rw (e, f, g) refl)

less_sign : (x y : ℤ) → IsSign x → IsSign y → IsEntry (x -ℤ y) ⊎ (x ≡ neg_ℤ y)
less_sign x y (inl e) (inl f) = inl (record { low = omega (arith, sums); high = omega (arith, sums) })
less_sign x y (inl e) (inr f) = inr (omega (arith, sums))
less_sign x y (inr e) (inl f) = inr (omega (arith, sums))
less_sign x y (inr e) (inr f) = inl (record { low = omega (arith, sums); high = omega (arith, sums) })

less_zero : (x a p q : ℤ) → (p ≡ pos 0) ⊎ (q ≡ pos 0) → IsEntry x → IsEntry (x -ℤ a *ℤ (p *ℤ q))
less_zero x a p q (inl e) h = subst IsEntry (rw e (same x a q)) h
  where
    same : (x a q : ℤ) → x ≡ x -ℤ a *ℤ (pos 0 *ℤ q)
    same x a q = simp products (omega (arith, sums))
less_zero x a p q (inr e) h = subst IsEntry (rw e (same x a p)) h
  where
    same : (x a p : ℤ) → x ≡ x -ℤ a *ℤ (p *ℤ pos 0)
    same x a p = simp products (omega (arith, sums))

pub small_or_square : (a p q x : ℤ) → IsSign a → IsEntry p → IsEntry q → IsEntry x → IsEntry (x -ℤ a *ℤ (p *ℤ q)) ⊎ IsSquareViolator a p q x
small_or_square a p q x u sp sq sx = go (zero_or_sign p sp) (zero_or_sign q sq) (zero_or_sign x sx)
  where
    minus : (x y : ℤ) → x ≡ pos 0 → IsSign y → IsEntry (x -ℤ y)
    minus x y e (inl f) = record { low = omega (arith, sums); high = omega (arith, sums) }
    minus x y e (inr f) = record { low = omega (arith, sums); high = omega (arith, sums) }

    go : (p ≡ pos 0) ⊎ IsSign p → (q ≡ pos 0) ⊎ IsSign q → (x ≡ pos 0) ⊎ IsSign x → IsEntry (x -ℤ a *ℤ (p *ℤ q)) ⊎ IsSquareViolator a p q x
    go (inl e) k l = inl (less_zero x a p q (inl e) sx)
    go (inr up) (inl e) l = inl (less_zero x a p q (inr e) sx)
    go (inr up) (inr uq) (inl e) = inl (minus x (a *ℤ (p *ℤ q)) e (sign-product a p q u up uq))
    go (inr up) (inr uq) (inr ux) = elim (less_sign x (a *ℤ (p *ℤ q)) ux (sign-product a p q u up uq)) [
      | inl h ↦ inl h
      | inr h ↦ inr (record { corner = u; below = up; beside = uq; across = ux; opposite = h })
    ]

pub signs_even : (x y : ℤ) → IsSign x → IsSign y → IsEven (x +ℤ (y +ℤ pos 0))
signs_even x y (inl e) (inl f) = (pos 1, rw (e, f) refl)
signs_even x y (inl e) (inr f) = (pos 0, rw (e, f) refl)
signs_even x y (inr e) (inl f) = (pos 0, rw (e, f) refl)
signs_even x y (inr e) (inr f) = (negsuc 0, rw (e, f) refl)

square_total : (a p q x : ℤ) → IsSign a → IsSign p → IsSign q → x ≡ neg_ℤ (a *ℤ (p *ℤ q)) → IsTwoModFour ((a +ℤ (q +ℤ pos 0)) +ℤ ((p +ℤ (x +ℤ pos 0)) +ℤ pos 0))
square_total a p q x (inl e) (inl f) (inl g) h = (pos 0, rw (h, e, f, g) refl)
square_total a p q x (inl e) (inl f) (inr g) h = (pos 0, rw (h, e, f, g) refl)
square_total a p q x (inl e) (inr f) (inl g) h = (pos 0, rw (h, e, f, g) refl)
square_total a p q x (inl e) (inr f) (inr g) h = (negsuc 0, rw (h, e, f, g) refl)
square_total a p q x (inr e) (inl f) (inl g) h = (pos 0, rw (h, e, f, g) refl)
square_total a p q x (inr e) (inl f) (inr g) h = (negsuc 0, rw (h, e, f, g) refl)
square_total a p q x (inr e) (inr f) (inl g) h = (negsuc 0, rw (h, e, f, g) refl)
square_total a p q x (inr e) (inr f) (inr g) h = (negsuc 0, rw (h, e, f, g) refl)

pub square_violator : (M : ℕ → ℕ → ℤ) (r i c j : ℕ) → IsSquareViolator (M r c) (M i c) (M r j) (M i j) → IsViolator M (r ∷ i ∷ []) (c ∷ j ∷ [])
square_violator M r i c j s = record {
  even_rows = (signs_even (M r c) (M r j) s.corner s.beside, (signs_even (M i c) (M i j) s.below s.across, tt));
  even_columns = (signs_even (M r c) (M i c) s.corner s.below, (signs_even (M r j) (M i j) s.beside s.across, tt));
  two_mod_four = square_total (M r c) (M i c) (M r j) (M i j) s.corner s.below s.beside s.opposite;
}
