-- Products of entries with signs.
use Rattle.std.proofs.Common.{◌≡◌, ◌∙◌, ℤ, pos, ◌*ℤ◌, inl, inr, refl, sym, arith}
use Rattle.cmr_base.specs.Signing.{IsSign}
use Rattle.cmr_base.proofs.Integers.{products, sums, mul-one}

pub sign_square : (x : ℤ) → IsSign x → x *ℤ x ≡ pos 1
sign_square x (inl e) = rw e refl
sign_square x (inr e) = rw e refl

-- two multiplications by one sign cancel
pub twice_by_sign : (e x : ℤ) → IsSign e → x ≡ e *ℤ (x *ℤ e)
twice_by_sign e x h = sym (gather e x ∙ rw (sign_square e h) (mul-one x))
  where
    gather : (e x : ℤ) → e *ℤ (x *ℤ e) ≡ x *ℤ (e *ℤ e)
    gather e x = simp products

-- a block of rank one from the entries at another position of it: f is the entry in the first position's row, g the entry in its
-- column
pub same_product : (a b e f g : ℤ) → IsSign e → IsSign f → IsSign g → a *ℤ (b *ℤ e) ≡ (a *ℤ (f *ℤ e)) *ℤ ((g *ℤ (b *ℤ e)) *ℤ (g *ℤ (f *ℤ e)))
same_product a b e f g he hf hg = sym (gather a b e f g ∙ rw (sign_square e he, sign_square f hf, sign_square g hg) (times_ones (a *ℤ (b *ℤ e))))
  where
    gather : (a b e f g : ℤ) → (a *ℤ (f *ℤ e)) *ℤ ((g *ℤ (b *ℤ e)) *ℤ (g *ℤ (f *ℤ e))) ≡ (a *ℤ (b *ℤ e)) *ℤ ((f *ℤ f) *ℤ ((g *ℤ g) *ℤ (e *ℤ e)))
    gather a b e f g = simp products (omega (arith, sums))

    times_ones : (z : ℤ) → z *ℤ (pos 1 *ℤ (pos 1 *ℤ pos 1)) ≡ z
    times_ones z = simp products (omega (arith, sums))
