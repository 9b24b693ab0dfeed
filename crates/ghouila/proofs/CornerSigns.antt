-- Corners with the product -1 are a violator.
use Rattle.std.proofs.Common.{ℕ, ℤ, pos, negsuc, [], ◌∷◌, ◌≡◌, ◌+ℤ◌, ◌*ℤ◌, refl, arith, ◌⊎◌, inl, inr}
use Rattle.cmr_base.specs.Sums.{IsTwoModFour}
use Rattle.cmr_base.specs.Violator.{IsViolator}
use Rattle.cmr_base.specs.Signing.{IsSign}
use Rattle.ghouila.proofs.Sides.{corners}
use Rattle.cmr_base.proofs.Integers.{sums}
use Rattle.ghouila.proofs.Square.{signs_even}

product : (a b c d a' b' c' d' : ℤ) → a ≡ a' → b ≡ b' → c ≡ c' → d ≡ d' → (a *ℤ b) *ℤ (c *ℤ d) ≡ (a' *ℤ b') *ℤ (c' *ℤ d')
product a b c d a' b' c' d' e f g h = rw (e, f, g, h) refl

sum_two : (a b c d : ℤ) → IsSign a → IsSign b → IsSign c → IsSign d
    → ((a *ℤ b) *ℤ (c *ℤ d) ≡ pos 1) ⊎ (((a *ℤ b) *ℤ (c *ℤ d) ≡ negsuc 0) × IsTwoModFour ((a +ℤ (b +ℤ pos 0)) +ℤ ((c +ℤ (d +ℤ pos 0)) +ℤ pos 0)))
sum_two a b c d (inl e) (inl f) (inl g) (inl h) = inl (product a b c d (pos 1) (pos 1) (pos 1) (pos 1) e f g h)
sum_two a b c d (inl e) (inl f) (inl g) (inr h) = inr (product a b c d (pos 1) (pos 1) (pos 1) (negsuc 0) e f g h, (pos 0, omega (arith, sums)))
sum_two a b c d (inl e) (inl f) (inr g) (inl h) = inr (product a b c d (pos 1) (pos 1) (negsuc 0) (pos 1) e f g h, (pos 0, omega (arith, sums)))
sum_two a b c d (inl e) (inl f) (inr g) (inr h) = inl (product a b c d (pos 1) (pos 1) (negsuc 0) (negsuc 0) e f g h)
sum_two a b c d (inl e) (inr f) (inl g) (inl h) = inr (product a b c d (pos 1) (negsuc 0) (pos 1) (pos 1) e f g h, (pos 0, omega (arith, sums)))
sum_two a b c d (inl e) (inr f) (inl g) (inr h) = inl (product a b c d (pos 1) (negsuc 0) (pos 1) (negsuc 0) e f g h)
sum_two a b c d (inl e) (inr f) (inr g) (inl h) = inl (product a b c d (pos 1) (negsuc 0) (negsuc 0) (pos 1) e f g h)
sum_two a b c d (inl e) (inr f) (inr g) (inr h) = inr (product a b c d (pos 1) (negsuc 0) (negsuc 0) (negsuc 0) e f g h, (negsuc 0, omega (arith, sums)))
sum_two a b c d (inr e) (inl f) (inl g) (inl h) = inr (product a b c d (negsuc 0) (pos 1) (pos 1) (pos 1) e f g h, (pos 0, omega (arith, sums)))
sum_two a b c d (inr e) (inl f) (inl g) (inr h) = inl (product a b c d (negsuc 0) (pos 1) (pos 1) (negsuc 0) e f g h)
sum_two a b c d (inr e) (inl f) (inr g) (inl h) = inl (product a b c d (negsuc 0) (pos 1) (negsuc 0) (pos 1) e f g h)
sum_two a b c d (inr e) (inl f) (inr g) (inr h) = inr (product a b c d (negsuc 0) (pos 1) (negsuc 0) (negsuc 0) e f g h, (negsuc 0, omega (arith, sums)))
sum_two a b c d (inr e) (inr f) (inl g) (inl h) = inl (product a b c d (negsuc 0) (negsuc 0) (pos 1) (pos 1) e f g h)
sum_two a b c d (inr e) (inr f) (inl g) (inr h) = inr (product a b c d (negsuc 0) (negsuc 0) (pos 1) (negsuc 0) e f g h, (negsuc 0, omega (arith, sums)))
sum_two a b c d (inr e) (inr f) (inr g) (inl h) = inr (product a b c d (negsuc 0) (negsuc 0) (negsuc 0) (pos 1) e f g h, (negsuc 0, omega (arith, sums)))
sum_two a b c d (inr e) (inr f) (inr g) (inr h) = inl (product a b c d (negsuc 0) (negsuc 0) (negsuc 0) (negsuc 0) e f g h)

pub corners_violate : (M : ℕ → ℕ → ℤ) (i p k j : ℕ) → IsSign (M i p) → IsSign (M i j) → IsSign (M k p) → IsSign (M k j)
    → (corners M i p k j ≡ pos 1) ⊎ ((corners M i p k j ≡ negsuc 0) × IsViolator M (i ∷ k ∷ []) (p ∷ j ∷ []))
corners_violate M i p k j a b c d = elim (sum_two (M i p) (M i j) (M k p) (M k j) a b c d) [
  | inl h ↦ inl h
  | inr h ↦ inr (
    h.0,
    record {
      even_rows = (signs_even (M i p) (M i j) a b, (signs_even (M k p) (M k j) c d, tt));
      even_columns = (signs_even (M i p) (M k p) a c, (signs_even (M i j) (M k j) b d, tt));
      two_mod_four = h.1;
    },
  )
]
