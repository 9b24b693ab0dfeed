-- Bits of words under bitwise operations.
use Rattle.std.proofs.Common.{◌≡◌, ◌<◌, ◌+◌, ◌-◌, ◌*◌, ◌^◌, ◌&&◌, ◌||◌, ◌∙◌, ℕ, zero, suc, true, false, not, eqb, min, max, refl, ap, arith, w64, ◌⊎◌, inl, inr}
use Rattle.std.specs.Int.{bit_at, bit_not}
use Rattle.std.specs.Int.Bits.{bit_and, bit_or}
use Rattle.std.proofs.lemmas.Nat.Bits.{bit_at-lt, bit_at_and, bit_at_or, bit_at_not, bit_at-zero}
use Rattle.cmr_base.specs.Matrix.{Matrix, row_of, is_nonzero}
use Rattle.cmr_base.specs.Planes.{has_bit, word_of}
use Rattle.cmr_base.specs.Trees.{support}
use Rattle.cmr_base.proofs.Booleans.{not_both}
use Rattle.cmr_base.proofs.PlaneWords.{bit-word_of, one_bit}

pub zero_or_one : (n : ℕ) → n < 2 → (n ≡ 0) ⊎ (n ≡ 1)
zero_or_one zero h = inl refl
zero_or_one (suc zero) h = inr refl
zero_or_one (suc (suc n)) h = absurd (omega arith)

both : (a b : ℕ) → (a ≡ 0) ⊎ (a ≡ 1) → (b ≡ 0) ⊎ (b ≡ 1) → eqb (min a b) 1 ≡ (eqb a 1 && eqb b 1)
both a b (inl e) (inl f) = rw (e, f) refl
both a b (inl e) (inr f) = rw (e, f) refl
both a b (inr e) (inl f) = rw (e, f) refl
both a b (inr e) (inr f) = rw (e, f) refl

either : (a b : ℕ) → (a ≡ 0) ⊎ (a ≡ 1) → (b ≡ 0) ⊎ (b ≡ 1) → eqb (max a b) 1 ≡ (eqb a 1 || eqb b 1)
either a b (inl e) (inl f) = rw (e, f) refl
either a b (inl e) (inr f) = rw (e, f) refl
either a b (inr e) (inl f) = rw (e, f) refl
either a b (inr e) (inr f) = rw (e, f) refl

opposite : (a : ℕ) → (a ≡ 0) ⊎ (a ≡ 1) → eqb (1 - a) 1 ≡ not (eqb a 1)
opposite a (inl e) = rw e refl
opposite a (inr e) = rw e refl

pub has_bit-and : (a b k : ℕ) → has_bit (bit_and a b) k ≡ (has_bit a k && has_bit b k)
has_bit-and a b k = ap (λ n. eqb n 1) (bit_at_and a b k) ∙ both (bit_at a k) (bit_at b k) (zero_or_one (bit_at a k) (bit_at-lt a k)) (zero_or_one (bit_at b k) (bit_at-lt b k))

pub has_bit-or : (a b k : ℕ) → has_bit (bit_or a b) k ≡ (has_bit a k || has_bit b k)
has_bit-or a b k = ap (λ n. eqb n 1) (bit_at_or a b k) ∙ either (bit_at a k) (bit_at b k) (zero_or_one (bit_at a k) (bit_at-lt a k)) (zero_or_one (bit_at b k) (bit_at-lt b k))

pub has_bit-not : (a k : ℕ) → a < 2 ^ 64 → k < 64 → has_bit (bit_not w64 a) k ≡ not (has_bit a k)
has_bit-not a k fits small = ap (λ n. eqb n 1) (bit_at_not w64 a k fits small) ∙ opposite (bit_at a k) (zero_or_one (bit_at a k) (bit_at-lt a k))

pub has_bit-zero : (k : ℕ) → has_bit 0 k ≡ false
has_bit-zero k = ap (λ (bit : ℕ). eqb bit 1) (bit_at-zero k)

pub no_bit : (word k : ℕ) → word ≡ 0 → has_bit word k ≡ true → ⊥
no_bit word k none e = not_both (has_bit word k) e (ap (λ (w : ℕ). has_bit w k) none ∙ has_bit-zero k)

-- a bit of a word of a matrix's row
pub bit_at_chunk : (m : Matrix) (row chunk k : ℕ) → k < 64 → has_bit (word_of is_nonzero (row_of m row) chunk) k ≡ support m row (64 * chunk + k)
bit_at_chunk m row chunk k small = ap (λ n. eqb n 1) (bit-word_of is_nonzero (row_of m row) chunk k refl small) ∙ one_bit (support m row (64 * chunk + k))
