-- The columns in which two rows differ, from the words of both rows.
use Rattle.std.proofs.Common.{◌≡◌, ◌<◌, ◌+◌, ◌*◌, ◌%◌, ◌∙◌, ◌*ℤ◌, max, ℕ, zero, suc, ℤ, pos, negsuc, Bool, true, cond, refl, ap, ap₂, sym, inl, inr, arith, ◌≢◌, w8, of_z}
use Rattle.std.specs.Int.{bit_at}
use Rattle.std.specs.Int.Bits.{bit_xor, bit_or}
use Rattle.std.proofs.lemmas.Int.{ints}
use Rattle.std.proofs.lemmas.Bool.{cases_lt, true≢false}
use Rattle.std.proofs.lemmas.List.{get_or_past}
use Rattle.std.proofs.lemmas.Nat.Bits.{bit_at_or, bit_at_xor}
use Rattle.cmr_base.specs.Matrix.{Matrix, height, row_of, entry, IsMatrix, IsEntry, is_nonzero}
use Rattle.cmr_base.specs.Planes.{is_minus, word_of}
use Rattle.cmr_base.specs.Differences.{differ, differs_at}
use Rattle.cmr_base.proofs.PlaneWords.{bit-word_of}
use Rattle.cmr_base.proofs.Integers.{products, mul-zero}

abbrev bit : Bool → ℕ
bit b = cond b 1 0

-- an entry is at most 1 and at least -1
pub too_large : {P : Type 0} (n : ℕ) → IsEntry (pos (suc (suc n))) → P
too_large n small = absurd (let l = small.high in omega (arith, ints))

pub too_small : {P : Type 0} (n : ℕ) → IsEntry (negsuc (suc n)) → P
too_small n small = absurd (let l = small.low in omega (arith, ints))

zero_bits : (x : ℤ) → IsEntry x → bit (is_nonzero x) ≡ bit (differ x (pos 0))
zero_bits (pos zero) a = refl
zero_bits (pos (suc zero)) a = refl
zero_bits (negsuc zero) a = refl
zero_bits (pos (suc (suc n))) a = too_large n a
zero_bits (negsuc (suc n)) a = too_small n a

plus_bits : (x y : ℤ) → IsEntry x → IsEntry y → max ((bit (is_nonzero x) + bit (is_nonzero y)) % 2) ((bit (is_minus x) + bit (is_minus y)) % 2) ≡ bit (differ x (pos 1 *ℤ y))
plus_bits (pos zero) (pos zero) a b = refl
plus_bits (pos zero) (pos (suc zero)) a b = refl
plus_bits (pos zero) (negsuc zero) a b = refl
plus_bits (pos (suc zero)) (pos zero) a b = refl
plus_bits (pos (suc zero)) (pos (suc zero)) a b = refl
plus_bits (pos (suc zero)) (negsuc zero) a b = refl
plus_bits (negsuc zero) (pos zero) a b = refl
plus_bits (negsuc zero) (pos (suc zero)) a b = refl
plus_bits (negsuc zero) (negsuc zero) a b = refl
plus_bits (pos (suc (suc n))) y a b = too_large n a
plus_bits (negsuc (suc n)) y a b = too_small n a
plus_bits (pos zero) (pos (suc (suc n))) a b = too_large n b
plus_bits (pos zero) (negsuc (suc n)) a b = too_small n b
plus_bits (pos (suc zero)) (pos (suc (suc n))) a b = too_large n b
plus_bits (pos (suc zero)) (negsuc (suc n)) a b = too_small n b
plus_bits (negsuc zero) (pos (suc (suc n))) a b = too_large n b
plus_bits (negsuc zero) (negsuc (suc n)) a b = too_small n b

minus_bits : (x y : ℤ) → IsEntry x → IsEntry y
    → max ((bit (is_nonzero x) + bit (is_nonzero y)) % 2) ((bit (is_minus x) + (bit (is_nonzero y) + bit (is_minus y)) % 2) % 2) ≡ bit (differ x (negsuc 0 *ℤ y))
minus_bits (pos zero) (pos zero) a b = refl
minus_bits (pos zero) (pos (suc zero)) a b = refl
minus_bits (pos zero) (negsuc zero) a b = refl
minus_bits (pos (suc zero)) (pos zero) a b = refl
minus_bits (pos (suc zero)) (pos (suc zero)) a b = refl
minus_bits (pos (suc zero)) (negsuc zero) a b = refl
minus_bits (negsuc zero) (pos zero) a b = refl
minus_bits (negsuc zero) (pos (suc zero)) a b = refl
minus_bits (negsuc zero) (negsuc zero) a b = refl
minus_bits (pos (suc (suc n))) y a b = too_large n a
minus_bits (negsuc (suc n)) y a b = too_small n a
minus_bits (pos zero) (pos (suc (suc n))) a b = too_large n b
minus_bits (pos zero) (negsuc (suc n)) a b = too_small n b
minus_bits (pos (suc zero)) (pos (suc (suc n))) a b = too_large n b
minus_bits (pos (suc zero)) (negsuc (suc n)) a b = too_small n b
minus_bits (negsuc zero) (pos (suc (suc n))) a b = too_large n b
minus_bits (negsuc zero) (negsuc (suc n)) a b = too_small n b

module _ (m : Matrix) (row model chunk i : ℕ) (is : IsMatrix m) (low : i < 64) where
  abbrev own : ℤ
  own = entry m row (64 * chunk + i)

  abbrev other : ℤ
  other = entry m model (64 * chunk + i)

  support_bit : bit_at (word_of is_nonzero (row_of m row) chunk) i ≡ bit (is_nonzero (entry m row (64 * chunk + i)))
  support_bit = bit-word_of is_nonzero (row_of m row) chunk i refl low

  minus_bit : bit_at (word_of is_minus (row_of m row) chunk) i ≡ bit (is_minus (entry m row (64 * chunk + i)))
  minus_bit = bit-word_of is_minus (row_of m row) chunk i refl low

  other_support_bit : bit_at (word_of is_nonzero (row_of m model) chunk) i ≡ bit (is_nonzero (entry m model (64 * chunk + i)))
  other_support_bit = bit-word_of is_nonzero (row_of m model) chunk i refl low

  other_minus_bit : bit_at (word_of is_minus (row_of m model) chunk) i ≡ bit (is_minus (entry m model (64 * chunk + i)))
  other_minus_bit = bit-word_of is_minus (row_of m model) chunk i refl low

  pub bit_without : bit_at (word_of is_nonzero (row_of m row) chunk) i ≡ bit (differs_at m row (pos 0) model (64 * chunk + i))
  bit_without = support_bit ∙ zero_bits (entry m row (64 * chunk + i)) (is.small row (64 * chunk + i)) ∙ ap (λ (z : ℤ). bit (differ (entry m row (64 * chunk + i)) z)) (sym (nothing (entry m model (64 * chunk + i))))
    where
      nothing : (z : ℤ) → pos 0 *ℤ z ≡ pos 0
      nothing z = simp products

  pub bit_same : bit_at (bit_or (bit_xor (word_of is_nonzero (row_of m row) chunk) (word_of is_nonzero (row_of m model) chunk)) (bit_xor (word_of is_minus (row_of m row) chunk) (word_of is_minus (row_of m model) chunk))) i
      ≡ bit (differs_at m row (pos 1) model (64 * chunk + i))
  bit_same =
      bit_at_or (bit_xor (word_of is_nonzero (row_of m row) chunk) (word_of is_nonzero (row_of m model) chunk)) (bit_xor (word_of is_minus (row_of m row) chunk) (word_of is_minus (row_of m model) chunk)) i
      ∙ ap₂ max (bit_at_xor (word_of is_nonzero (row_of m row) chunk) (word_of is_nonzero (row_of m model) chunk) i ∙ ap₂ (λ (a b : ℕ). (a + b) % 2) support_bit other_support_bit)
      (bit_at_xor (word_of is_minus (row_of m row) chunk) (word_of is_minus (row_of m model) chunk) i ∙ ap₂ (λ (a b : ℕ). (a + b) % 2) minus_bit other_minus_bit)
      ∙ plus_bits (entry m row (64 * chunk + i)) (entry m model (64 * chunk + i)) (is.small row (64 * chunk + i)) (is.small model (64 * chunk + i))

  pub bit_negated : bit_at (bit_or (bit_xor (word_of is_nonzero (row_of m row) chunk) (word_of is_nonzero (row_of m model) chunk)) (bit_xor (word_of is_minus (row_of m row) chunk) (bit_xor (word_of is_nonzero (row_of m model) chunk) (word_of is_minus (row_of m model) chunk)))) i
      ≡ bit (differs_at m row (negsuc 0) model (64 * chunk + i))
  bit_negated =
      bit_at_or (bit_xor (word_of is_nonzero (row_of m row) chunk) (word_of is_nonzero (row_of m model) chunk)) (bit_xor (word_of is_minus (row_of m row) chunk) (bit_xor (word_of is_nonzero (row_of m model) chunk) (word_of is_minus (row_of m model) chunk))) i
      ∙ ap₂ max (bit_at_xor (word_of is_nonzero (row_of m row) chunk) (word_of is_nonzero (row_of m model) chunk) i ∙ ap₂ (λ (a b : ℕ). (a + b) % 2) support_bit other_support_bit)
      (bit_at_xor (word_of is_minus (row_of m row) chunk) (bit_xor (word_of is_nonzero (row_of m model) chunk) (word_of is_minus (row_of m model) chunk)) i
      ∙ ap₂ (λ (a b : ℕ). (a + b) % 2) minus_bit (bit_at_xor (word_of is_nonzero (row_of m model) chunk) (word_of is_minus (row_of m model) chunk) i ∙ ap₂ (λ (a b : ℕ). (a + b) % 2) other_support_bit other_minus_bit))
      ∙ minus_bits (entry m row (64 * chunk + i)) (entry m model (64 * chunk + i)) (is.small row (64 * chunk + i)) (is.small model (64 * chunk + i))

-- an entry is 1 if its byte is 1, and -1 if its byte is not 0 and not 1
pub factor_one : (x : ℤ) → IsEntry x → of_z w8 x ≡ 1 → x ≡ pos 1
factor_one (pos zero) a e = absurd (omega (arith, e))
factor_one (pos (suc zero)) a e = refl
factor_one (negsuc zero) a e = absurd (omega (arith, e))
factor_one (pos (suc (suc n))) a e = too_large n a
factor_one (negsuc (suc n)) a e = too_small n a

pub factor_minus : (x : ℤ) → IsEntry x → of_z w8 x ≢ 0 → of_z w8 x ≢ 1 → x ≡ negsuc 0
factor_minus (pos zero) a e f = absurd (e refl)
factor_minus (pos (suc zero)) a e f = absurd (f refl)
factor_minus (negsuc zero) a e f = refl
factor_minus (pos (suc (suc n))) a e f = too_large n a
factor_minus (negsuc (suc n)) a e f = too_small n a

-- two rows differ only in columns within the width
pub difference_in : (m : Matrix) (row : ℕ) (factor : ℤ) (model column : ℕ) → IsMatrix m → row < height m → model < height m → differs_at m row factor model column ≡ true → column < m.width
difference_in m row factor model column is l k e = elim (cases_lt column m.width) [
  | inl h ↦ h
  | inr past ↦ absurd (true≢false (sym e ∙ ap₂ differ (get_or_past (row_of m row) column (pos 0) (omega (arith, past, is.rectangular row l))) (ap (λ (z : ℤ). factor *ℤ z) (get_or_past (row_of m model) column (pos 0) (omega (arith, past, is.rectangular model k))) ∙ mul-zero factor)))
]
