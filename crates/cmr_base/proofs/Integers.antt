-- The ring of integers: `simp products (omega (arith, sums))` proves an identity of polynomials.
use Rattle.std.proofs.Common.{◌≡◌, ◌*◌, ◌∙◌, ℕ, zero, suc, ℤ, pos, negsuc, neg_ℤ, ◌+ℤ◌, ◌*ℤ◌, refl, ap, sym, arith}
use Rattle.std.proofs.lemmas.Int.{ints}
use borrow.Author.Differences.{up, down, sum_is_lem, product_is, neg_is, same_in, same_out, Apart-out, lt_out, le_out, below_in, at_most_in}

-- for `omega`: sums of integers, in which each product is an unknown
pub ruleset sums = (same_out, Apart-out, same_in, lt_out, le_out, below_in, at_most_in, sum_is_lem, neg_is)

pub mul-add : (a b c : ℤ) → a *ℤ (b +ℤ c) ≡ a *ℤ b +ℤ a *ℤ c
mul-add a b c = omega (arith, ints, ap (λ (n : ℕ). up a * n) (sum_is_lem b c), ap (λ (n : ℕ). down a * n) (sum_is_lem b c))

pub mul_comm : (a b : ℤ) → a *ℤ b ≡ b *ℤ a
mul_comm a b = omega (arith, ints)

pub add-mul : (a b c : ℤ) → (a +ℤ b) *ℤ c ≡ a *ℤ c +ℤ b *ℤ c
add-mul a b c = rw (mul_comm (a +ℤ b) c, mul-add c a b, mul_comm c a, mul_comm c b) refl

pub mul_assoc : (a b c : ℤ) → (a *ℤ b) *ℤ c ≡ a *ℤ (b *ℤ c)
mul_assoc a b c = omega (
  arith,
  ints,
  ap (λ (n : ℕ). up a * n) (product_is b c).0,
  ap (λ (n : ℕ). up a * n) (product_is b c).1,
  ap (λ (n : ℕ). down a * n) (product_is b c).0,
  ap (λ (n : ℕ). down a * n) (product_is b c).1,
  ap (λ (n : ℕ). n * up c) (product_is a b).0,
  ap (λ (n : ℕ). n * up c) (product_is a b).1,
  ap (λ (n : ℕ). n * down c) (product_is a b).0,
  ap (λ (n : ℕ). n * down c) (product_is a b).1,
)

pub mul_left_comm : (a b c : ℤ) → a *ℤ (b *ℤ c) ≡ b *ℤ (a *ℤ c)
mul_left_comm a b c = sym (mul_assoc a b c) ∙ ap (λ (n : ℤ). n *ℤ c) (mul_comm a b) ∙ mul_assoc b a c

pub neg-mul : (a b : ℤ) → neg_ℤ a *ℤ b ≡ neg_ℤ (a *ℤ b)
neg-mul (pos zero) b = omega (arith, ints)
neg-mul (pos (suc n)) b = omega (arith, ints)
neg-mul (negsuc n) b = omega (arith, ints)

pub mul-neg : (a b : ℤ) → a *ℤ neg_ℤ b ≡ neg_ℤ (a *ℤ b)
mul-neg a b = mul_comm a (neg_ℤ b) ∙ neg-mul b a ∙ ap neg_ℤ (mul_comm b a)

pub one-mul : (a : ℤ) → pos 1 *ℤ a ≡ a
one-mul a = omega (arith, ints)

pub times_one : (a : ℤ) → a ≡ pos 1 *ℤ a
times_one a = sym (one-mul a)

pub minus_one-mul : (a : ℤ) → negsuc 0 *ℤ a ≡ neg_ℤ a
minus_one-mul a = omega (arith, ints)

pub two-mul : (a : ℤ) → pos 2 *ℤ a ≡ a +ℤ a
two-mul a = omega (arith, ints)

pub four-mul : (a : ℤ) → pos 4 *ℤ a ≡ (a +ℤ a) +ℤ (a +ℤ a)
four-mul a = omega (arith, ints)

pub zero-mul : (a : ℤ) → pos 0 *ℤ a ≡ pos 0
zero-mul a = omega (arith, ints)

pub mul-one : (a : ℤ) → a *ℤ pos 1 ≡ a
mul-one a = omega (arith, ints)

pub mul-minus_one : (a : ℤ) → a *ℤ negsuc 0 ≡ neg_ℤ a
mul-minus_one a = omega (arith, ints)

pub mul-two : (a : ℤ) → a *ℤ pos 2 ≡ a +ℤ a
mul-two a = omega (arith, ints)

pub mul-four : (a : ℤ) → a *ℤ pos 4 ≡ (a +ℤ a) +ℤ (a +ℤ a)
mul-four a = omega (arith, ints)

pub mul-zero : (a : ℤ) → a *ℤ pos 0 ≡ pos 0
mul-zero a = omega (arith, ints)

-- for `simp`: multiplies out and sorts the factors
pub ruleset products = (mul-add, add-mul, mul_assoc, neg-mul, mul-neg, mul_comm, mul_left_comm, one-mul, mul-one, minus_one-mul, mul-minus_one, two-mul, mul-two, four-mul, mul-four, zero-mul, mul-zero)
