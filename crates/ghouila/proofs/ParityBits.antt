-- An integer as a bit and twice a half.
use Rattle.std.proofs.Common.{ℤ, pos, Bool, true, false, cond, ◌≡◌, ◌+ℤ◌, ◌*ℤ◌, ◌-ℤ◌, ◌∙◌, ap, ap₂, arith, subst, inl, inr}
use Rattle.cmr_base.specs.Sums.{IsEven}
use Rattle.cmr_base.proofs.Integers.{sums, products}
use Rattle.cmr_base.proofs.Parity.{IsFour, even_or_odd}

-- the number if the bit is set, otherwise 0
abbrev pub when : Bool → ℤ → ℤ
when s z = cond s z (pos 0)

abbrev pub bit : Bool → ℤ
bit s = cond s (pos 1) (pos 0)

pub record Bit (z : ℤ) : Type 0 where
  pub odd : Bool
  pub half : ℤ
  pub is : z ≡ bit odd +ℤ (half +ℤ half)

pub bit_of : (z : ℤ) → Bit z
bit_of z = elim (even_or_odd z) [
  | inl h ↦ record { odd = false; half = h.0; is = zero z h.0 h.1 }
  | inr h ↦ record { odd = true; half = h.0 -ℤ pos 1; is = one z h.0 h.1 }
]
  where
    zero : (z k : ℤ) → z ≡ k +ℤ k → z ≡ pos 0 +ℤ (k +ℤ k)
    zero z k e = omega (arith, sums)

    one : (z k : ℤ) → z +ℤ pos 1 ≡ k +ℤ k → z ≡ pos 1 +ℤ ((k -ℤ pos 1) +ℤ (k -ℤ pos 1))
    one z k e = omega (arith, sums)

-- a multiplicity x in an even sum can be replaced by x modulo 2
pub even_bit : (y a x : ℤ) (b : Bit x) → IsEven (y +ℤ a *ℤ x) → IsEven (y +ℤ when b.odd a)
even_bit y a x b h = go b.odd b.half b.is
  where
    go : (t : Bool) (k : ℤ) → x ≡ bit t +ℤ (k +ℤ k) → IsEven (y +ℤ when t a)
    go false k e = plain y a x k e h
      where
        plain : (y a x k : ℤ) → x ≡ pos 0 +ℤ (k +ℤ k) → IsEven (y +ℤ a *ℤ x) → IsEven (y +ℤ pos 0)
        plain y a x k e (l, f) = (l -ℤ a *ℤ k, less y (a *ℤ x) (a *ℤ k) l f (ap (λ (z : ℤ). a *ℤ z) e ∙ same a k))
          where
            same : (a k : ℤ) → a *ℤ (pos 0 +ℤ (k +ℤ k)) ≡ a *ℤ k +ℤ a *ℤ k
            same a k = simp products (omega (arith, sums))

            less : (y p q l : ℤ) → y +ℤ p ≡ l +ℤ l → p ≡ q +ℤ q → y +ℤ pos 0 ≡ (l -ℤ q) +ℤ (l -ℤ q)
            less y p q l f g = omega (arith, sums)
    go true k e = plain y a x k e h
      where
        plain : (y a x k : ℤ) → x ≡ pos 1 +ℤ (k +ℤ k) → IsEven (y +ℤ a *ℤ x) → IsEven (y +ℤ a)
        plain y a x k e (l, f) = (l -ℤ a *ℤ k, less y a (a *ℤ x) (a *ℤ k) l f (ap (λ (z : ℤ). a *ℤ z) e ∙ same a k))
          where
            same : (a k : ℤ) → a *ℤ (pos 1 +ℤ (k +ℤ k)) ≡ a +ℤ (a *ℤ k +ℤ a *ℤ k)
            same a k = simp products (omega (arith, sums))

            less : (y a p q l : ℤ) → y +ℤ p ≡ l +ℤ l → p ≡ a +ℤ (q +ℤ q) → y +ℤ a ≡ (l -ℤ q) +ℤ (l -ℤ q)
            less y a p q l f g = omega (arith, sums)

pub even_bit_left : (y x a : ℤ) (b : Bit x) → IsEven (y +ℤ x *ℤ a) → IsEven (y +ℤ when b.odd a)
even_bit_left y x a b h = even_bit y a x b (subst IsEven (same y x a) h)
  where
    same : (y x a : ℤ) → y +ℤ x *ℤ a ≡ y +ℤ a *ℤ x
    same y x a = simp products

-- x*y is equal modulo 4 to the sum of x if y is odd, y if x is odd, and -1 if both are odd
pub mixed_product : (x y : ℤ) (p : Bit x) (q : Bit y) → IsFour ((x *ℤ y +ℤ when p.odd (when q.odd (pos 1))) -ℤ (when q.odd x +ℤ when p.odd y))
mixed_product x y p q = go p.odd q.odd p.half q.half p.is q.is
  where
    p00 : (x y h k z m : ℤ) → x ≡ pos 0 +ℤ (h +ℤ h) → y ≡ pos 0 +ℤ (k +ℤ k) → z ≡ (m +ℤ m) +ℤ (m +ℤ m) → IsFour ((z +ℤ pos 0) -ℤ (pos 0 +ℤ pos 0))
    p00 x y h k z m e f g = (m, omega (arith, sums))

    p01 : (x y h k z m : ℤ) → x ≡ pos 0 +ℤ (h +ℤ h) → y ≡ pos 1 +ℤ (k +ℤ k) → z ≡ (h +ℤ h) +ℤ ((m +ℤ m) +ℤ (m +ℤ m)) → IsFour ((z +ℤ pos 0) -ℤ (x +ℤ pos 0))
    p01 x y h k z m e f g = (m, omega (arith, sums))

    p10 : (x y h k z m : ℤ) → x ≡ pos 1 +ℤ (h +ℤ h) → y ≡ pos 0 +ℤ (k +ℤ k) → z ≡ (k +ℤ k) +ℤ ((m +ℤ m) +ℤ (m +ℤ m)) → IsFour ((z +ℤ pos 0) -ℤ (pos 0 +ℤ y))
    p10 x y h k z m e f g = (m, omega (arith, sums))

    p11 : (x y h k z m : ℤ) → x ≡ pos 1 +ℤ (h +ℤ h) → y ≡ pos 1 +ℤ (k +ℤ k) → z ≡ (pos 1 +ℤ ((h +ℤ h) +ℤ (k +ℤ k))) +ℤ ((m +ℤ m) +ℤ (m +ℤ m)) → IsFour ((z +ℤ pos 1) -ℤ (x +ℤ y))
    p11 x y h k z m e f g = (m, omega (arith, sums))

    q00 : (h k : ℤ) → (pos 0 +ℤ (h +ℤ h)) *ℤ (pos 0 +ℤ (k +ℤ k)) ≡ ((h *ℤ k +ℤ h *ℤ k) +ℤ (h *ℤ k +ℤ h *ℤ k))
    q00 h k = simp products (omega (arith, sums))

    q01 : (h k : ℤ) → (pos 0 +ℤ (h +ℤ h)) *ℤ (pos 1 +ℤ (k +ℤ k)) ≡ (h +ℤ h) +ℤ ((h *ℤ k +ℤ h *ℤ k) +ℤ (h *ℤ k +ℤ h *ℤ k))
    q01 h k = simp products (omega (arith, sums))

    q10 : (h k : ℤ) → (pos 1 +ℤ (h +ℤ h)) *ℤ (pos 0 +ℤ (k +ℤ k)) ≡ (k +ℤ k) +ℤ ((h *ℤ k +ℤ h *ℤ k) +ℤ (h *ℤ k +ℤ h *ℤ k))
    q10 h k = simp products (omega (arith, sums))

    q11 : (h k : ℤ) → (pos 1 +ℤ (h +ℤ h)) *ℤ (pos 1 +ℤ (k +ℤ k)) ≡ (pos 1 +ℤ ((h +ℤ h) +ℤ (k +ℤ k))) +ℤ ((h *ℤ k +ℤ h *ℤ k) +ℤ (h *ℤ k +ℤ h *ℤ k))
    q11 h k = simp products (omega (arith, sums))

    go : (s t : Bool) (h k : ℤ) → x ≡ bit s +ℤ (h +ℤ h) → y ≡ bit t +ℤ (k +ℤ k) → IsFour ((x *ℤ y +ℤ when s (when t (pos 1))) -ℤ (when t x +ℤ when s y))
    go false false h k e f = p00 x y h k (x *ℤ y) (h *ℤ k) e f (ap₂ (λ (u v : ℤ). u *ℤ v) e f ∙ q00 h k)
    go false true h k e f = p01 x y h k (x *ℤ y) (h *ℤ k) e f (ap₂ (λ (u v : ℤ). u *ℤ v) e f ∙ q01 h k)
    go true false h k e f = p10 x y h k (x *ℤ y) (h *ℤ k) e f (ap₂ (λ (u v : ℤ). u *ℤ v) e f ∙ q10 h k)
    go true true h k e f = p11 x y h k (x *ℤ y) (h *ℤ k) e f (ap₂ (λ (u v : ℤ). u *ℤ v) e f ∙ q11 h k)
