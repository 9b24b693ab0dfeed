-- Tests of numbers and of entries, and Booleans made of them.
use mir.Val.{bool_byte}
use Rattle.std.proofs.Common.{◌≡◌, ◌≢◌, ◌<◌, ◌≤◌, ◌&&◌, ◌||◌, ◌∙◌, ◌⊎◌, inl, inr, ℕ, zero, suc, ℤ, pos, negsuc, Bool, true, false, not, cond, nat_eq, nat_lt, refl, ap, arith}
use Rattle.std.specs.Prelude.{◌↔◌, IsTrue}
use Rattle.std.proofs.lemmas.Bool.{true≢false, cases_lt}
use Rattle.std.proofs.lemmas.Bool.Decides.{nat_tests}
use Rattle.std.proofs.lemmas.Int.{ints}
use Rattle.cmr_base.specs.Matrix.{is_nonzero}

-- ---- Booleans

-- neither of two tests is true
pub not_either : (a b : Bool) → (a || b) ≡ false → (a ≡ false) × (b ≡ false)
not_either true b h = absurd (cc)
not_either false b h = (refl, h)

pub true_is_false : {A : Type 0} → true ≡ false → A
true_is_false e = absurd (true≢false e)

pub not_both : (a : Bool) → a ≡ true → a ≡ false → ⊥
not_both a e f = cc

pub two_cases : (t : Bool) → (t ≡ true) ⊎ (t ≡ false)
two_cases true = inl refl
two_cases false = inr refl

pub bool_same : (a b : Bool) → (a ≡ b) ⊎ (a ≡ not b)
bool_same true true = inl refl
bool_same true false = inr refl
bool_same false true = inr refl
bool_same false false = inl refl

-- two tests are equal if each of them implies the other
pub same_test : (a b : Bool) → (a ≡ true → b ≡ true) → (b ≡ true → a ≡ true) → a ≡ b
same_test true true to back = refl
same_test true false to back = true_is_false (sym_of (to refl))
  where
    sym_of : {x y : Bool} → x ≡ y → y ≡ x
    sym_of e = cc
same_test false true to back = true_is_false (sym_of (back refl))
  where
    sym_of : {x y : Bool} → x ≡ y → y ≡ x
    sym_of e = cc
same_test false false to back = refl

pub false_is : (b : Bool) → (b ≡ true → ⊥) → b ≡ false
false_is true none = absurd (none refl)
false_is false none = refl

pub true_is : (b : Bool) → (b ≡ false → ⊥) → b ≡ true
true_is true none = refl
true_is false none = absurd (none refl)

-- not b is true if and only if b is false
pub not_is : (b : Bool) → not b ≡ true → b ≡ false
not_is true e = cc
not_is false e = refl

pub is_not : (b : Bool) → b ≡ false → not b ≡ true
is_not true e = cc
is_not false e = refl

pub not_false : (b : Bool) → not b ≡ false → b ≡ true
not_false true e = refl
not_false false e = cc

pub not_not : (b : Bool) → not (not b) ≡ b
not_not true = refl
not_not false = refl

pub and_is : (a b : Bool) → a && b ≡ true → (a ≡ true) × (b ≡ true)
and_is true b e = (refl, e)
and_is false b e = (cc, cc)

pub is_and : (a b : Bool) → a ≡ true → b ≡ true → a && b ≡ true
is_and a b e f = rw (e, f) refl

pub and_not : (a b : Bool) → (a && not b) ≡ false → a ≡ true → b ≡ true
and_not true true e h = refl
and_not true false e h = cc
and_not false b e h = cc

pub or_is : (a b : Bool) → (a || b) ≡ true → (a ≡ true) ⊎ (b ≡ true)
or_is true b e = inl refl
or_is false b e = inr e

pub or_left : (a b : Bool) → a ≡ true → (a || b) ≡ true
or_left a b e = rw e refl

pub or_right : (a b : Bool) → b ≡ true → (a || b) ≡ true
or_right true b e = refl
or_right false b e = e

pub or_true : (b : Bool) → (b || true) ≡ true
or_true true = refl
or_true false = refl

pub or_false : (b : Bool) → (b || false) ≡ b
or_false true = refl
or_false false = refl

pub and_true : (b : Bool) → (b && true) ≡ b
and_true true = refl
and_true false = refl

pub and_false : (b : Bool) → (b && false) ≡ false
and_false true = refl
and_false false = refl

pub and_same : (b : Bool) → (b && b) ≡ b
and_same true = refl
and_same false = refl

-- the byte of a test
pub one_or_none : (b : Bool) → bool_byte b ≡ cond b 1 0
one_or_none true = refl
one_or_none false = refl

-- ---- numbers

pub eq_of : (a b : ℕ) → nat_eq a b ≡ true → a ≡ b
eq_of a b e = grind (arith, nat_tests)

pub self_eq : (n : ℕ) → nat_eq n n ≡ true
self_eq n = grind arith

pub is_eq : (a b : ℕ) → a ≡ b → nat_eq a b ≡ true
is_eq a b e = ap (λ (z : ℕ). nat_eq z b) e ∙ self_eq b

pub eq_test : (m k : ℕ) → IsTrue (nat_eq m k) ↔ (m ≡ k)
eq_test m k = (λ h. grind (arith, nat_tests), λ h. grind (arith, nat_tests))

pub eq_swapped : (a b : ℕ) → nat_eq a b ≡ nat_eq b a
eq_swapped a b = grind (arith, nat_tests)

pub ne_of : (a b : ℕ) → nat_eq a b ≡ false → a ≢ b
ne_of a b e f = not_both (nat_eq a b) (is_eq a b f) e

pub is_ne : (a b : ℕ) → a ≢ b → nat_eq a b ≡ false
is_ne a b h = grind (arith, nat_tests)

pub same_or_not : (a b : ℕ) → (a ≡ b) ⊎ (a ≢ b)
same_or_not a b = go (nat_eq a b) refl
  where
    go : (t : Bool) → nat_eq a b ≡ t → (a ≡ b) ⊎ (a ≢ b)
    go true e = inl (eq_of a b e)
    go false e = inr (ne_of a b e)

pub lt_of : (a b : ℕ) → nat_lt a b ≡ true → a < b
lt_of a b e = grind (arith, nat_tests)

pub at_least_of : (a b : ℕ) → nat_lt a b ≡ false → b ≤ a
at_least_of a b e = grind (arith, nat_tests)

pub is_lt : (a b : ℕ) → a < b → nat_lt a b ≡ true
is_lt a b h = grind (arith, nat_tests)

pub is_not_lt : (a b : ℕ) → b ≤ a → nat_lt a b ≡ false
is_not_lt a b h = grind (arith, nat_tests)

pub neither : (a b : ℕ) → ¬ (a < b) → ¬ (b < a) → a ≡ b
neither a b low high = elim (cases_lt a b) [
  | inl l ↦ absurd (low l)
  | inr g ↦ elim (cases_lt b a) [ inl l ↦ absurd (high l) | inr h ↦ omega arith ]
]

-- ---- entries

pub nonzero_is : (z : ℤ) → is_nonzero z ≡ true → z ≢ pos 0
nonzero_is (pos zero) e f = cc
nonzero_is (pos (suc n)) e f = omega (arith, ints, f)
nonzero_is (negsuc n) e f = omega (arith, ints, f)

pub zero_is : (z : ℤ) → is_nonzero z ≡ false → z ≡ pos 0
zero_is (pos zero) e = refl
zero_is (pos (suc n)) e = cc
zero_is (negsuc n) e = cc

pub is_zero : (z : ℤ) → z ≡ pos 0 → is_nonzero z ≡ false
is_zero z e = ap is_nonzero e

pub is_nonzero_is : (z : ℤ) → z ≢ pos 0 → is_nonzero z ≡ true
is_nonzero_is (pos zero) h = absurd (h refl)
is_nonzero_is (pos (suc n)) h = refl
is_nonzero_is (negsuc n) h = refl
