-- Even and odd numbers, and multiples of four.
use Rattle.std.proofs.Common.{◌≡◌, ◌+◌, ◌⊎◌, inl, inr, ℕ, zero, suc, ℤ, pos, negsuc, neg_ℤ, ◌+ℤ◌, ◌*ℤ◌, ◌-ℤ◌, List, [], ◌∷◌, refl, arith}
use Rattle.std.specs.List.{AllByRecursion}
use Rattle.cmr_base.specs.Sums.{sum_over, IsEven, IsOdd, IsTwoModFour}
use Rattle.cmr_base.proofs.Integers.{sums, products}

-- four times an integer
abbrev pub IsFour : ℤ → Type 0
IsFour z = (k : ℤ) × (z ≡ (k +ℤ k) +ℤ (k +ℤ k))

half : (n : ℕ) → ((k : ℕ) × (n ≡ k + k)) ⊎ ((k : ℕ) × (n + 1 ≡ k + k))
half zero = inl (0, refl)
half (suc n) = elim (half n) [
  | inl h ↦ inr (h.0 + 1, let e = h.1 in omega arith)
  | inr h ↦ inl (h.0, let e = h.1 in omega arith)
]

pub even_or_odd : (z : ℤ) → IsEven z ⊎ IsOdd z
even_or_odd (pos n) = elim (half n) [
  | inl h ↦ inl (pos h.0, let e = h.1 in omega (arith, sums))
  | inr h ↦ inr (pos h.0, let e = h.1 in omega (arith, sums))
]
even_or_odd (negsuc n) = elim (half n) [
  | inl h ↦ inr (neg_ℤ (pos h.0), let e = h.1 in omega (arith, sums))
  | inr h ↦ inl (neg_ℤ (pos h.0), let e = h.1 in omega (arith, sums))
]

pub even_not_odd : (z : ℤ) → IsEven z → IsOdd z → ⊥
even_not_odd z (k, e) (l, f) = omega (arith, sums)

pub two_mod_four_not_four : (z : ℤ) → IsTwoModFour z → IsFour z → ⊥
two_mod_four_not_four z (k, e) (l, f) = omega (arith, sums)

pub even-add : (a b : ℤ) → IsEven a → IsEven b → IsEven (a +ℤ b)
even-add a b (k, e) (l, f) = (k +ℤ l, omega (arith, sums))

pub even-sub : (a b : ℤ) → IsEven a → IsEven b → IsEven (a -ℤ b)
even-sub a b (k, e) (l, f) = (k -ℤ l, omega (arith, sums))

pub even-mul_right : (a b : ℤ) → IsEven b → IsEven (a *ℤ b)
even-mul_right a b (k, e) = (a *ℤ k, rw e (simp products))

-- if a difference and one of its two numbers are even, so is the other number
pub even_by_difference : (a b : ℤ) → IsEven (a -ℤ b) → IsEven a → IsEven b
even_by_difference a b (k, e) (l, f) = (l -ℤ k, omega (arith, sums))

pub odd_by_difference : (a b : ℤ) → IsEven (a -ℤ b) → IsOdd a → IsOdd b
odd_by_difference a b (k, e) (l, f) = (l -ℤ k, omega (arith, sums))

pub four-double : (a : ℤ) → IsEven a → IsFour (a +ℤ a)
four-double a (k, e) = (k, omega (arith, sums))

pub four-mul_evens : (a b : ℤ) → IsEven a → IsEven b → IsFour (a *ℤ b)
four-mul_evens a b (k, e) (l, f) = (k *ℤ l, rw (e, f) (simp products))

pub four-mul_right : (a b : ℤ) → IsFour b → IsFour (a *ℤ b)
four-mul_right a b (k, e) = (a *ℤ k, rw e (simp products))

pub two_mod_four-add : (a b : ℤ) → IsTwoModFour a → IsFour b → IsTwoModFour (a +ℤ b)
two_mod_four-add a b (k, e) (l, f) = (k +ℤ l, omega (arith, sums))

-- numbers whose difference is a multiple of four are equal modulo four
pub two_mod_four_by_difference : (a b : ℤ) → IsFour (a -ℤ b) → IsTwoModFour a → IsTwoModFour b
two_mod_four_by_difference a b (k, e) (l, f) = (l -ℤ k, omega (arith, sums))

pub even-sum_over : {A : Type 0} (xs : List A) (f : A → ℤ) → AllByRecursion (λ x. IsEven (f x)) xs → IsEven (sum_over xs f)
even-sum_over [] f h = (pos 0, refl)
even-sum_over (x ∷ xs) f h = even-add (f x) (sum_over xs f) h.0 (even-sum_over xs f h.1)
