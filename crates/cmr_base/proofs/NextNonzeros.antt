-- Nonzeros of a row, from the words of its support.
use Rattle.std.proofs.Common.{pos, eqb, ◌≡◌, ◌<◌, ◌≤◌, ◌+◌, ◌-◌, ◌*◌, ◌/◌, ◌%◌, ◌^◌, ◌∙◌, ℕ, true, false, cond, refl, ap, sym, subst, inl, inr, arith, w64}
use Rattle.std.specs.Int.{bit_at, trailing_zeros}
use Rattle.std.proofs.lemmas.Bool.{cases_lt, true≢false}
use Rattle.std.proofs.lemmas.List.{get_or_past}
use Rattle.cmr_base.specs.Matrix.{Matrix, height, row_of, IsMatrix, is_nonzero}
use Rattle.cmr_base.specs.Planes.{has_bit, word_of}
use Rattle.cmr_base.specs.Trees.{support}
use Rattle.cmr_base.proofs.PlaneWords.{bit-word_of, one_bit, word_of-lt}
use Rattle.cmr_base.proofs.FirstBits.{none_by_bits, first_by_bits}

-- a nonzero is within the width
pub column_in : (m : Matrix) (row column : ℕ) → IsMatrix m → row < height m → support m row column ≡ true → column < m.width
column_in m row column is l e = elim (cases_lt column m.width) [
  | inl h ↦ h
  | inr past ↦ absurd (
      let long = is.rectangular row l in
      true≢false (sym e ∙ ap is_nonzero (get_or_past (row_of m row) column (pos 0) (omega (arith, long, past)))))
]

-- the bit of a column
pub bit_of_word : (m : Matrix) (row column : ℕ) → has_bit (word_of is_nonzero (row_of m row) (column / 64)) (column % 64) ≡ support m row column
bit_of_word m row column =
    let same : 64 * (column / 64) + column % 64 ≡ column = omega arith in
    ap (λ bit. eqb bit 1) (bit-word_of is_nonzero (row_of m row) (column / 64) (column % 64) refl (omega arith))
    ∙ one_bit (support m row (64 * (column / 64) + column % 64))
    ∙ ap (support m row) same

module _ (m : Matrix) (row column word : ℕ) (is : word ≡ word_of is_nonzero (row_of m row) (column / 64)) where
  fits : word < 2 ^ 64
  fits = subst (λ (n : ℕ). n < 2 ^ 64) (sym is) (word_of-lt is_nonzero (row_of m row) (column / 64))

  bits_are : (i : ℕ) → i < 64 → bit_at word i ≡ cond (support m row (64 * (column / 64) + i)) 1 0
  bits_are i small = ap (λ (n : ℕ). bit_at n i) is ∙ bit-word_of is_nonzero (row_of m row) (column / 64) i refl small

  -- the rest of the word is empty
  pub none_in_word : word / 2 ^ (column % 64) ≡ 0 → (c : ℕ) → column ≤ c → c < column - column % 64 + 64 → support m row c ≡ false
  none_in_word = none_by_bits (support m row) column word fits bits_are

  -- the lowest bit of the rest is the bit of the first nonzero
  pub first_in_word : 0 < word / 2 ^ (column % 64) → word / 2 ^ (column % 64) < 2 ^ 64
      → (support m row (column + trailing_zeros w64 (word / 2 ^ (column % 64))) ≡ true) × ((c : ℕ) → column ≤ c → c < column + trailing_zeros w64 (word / 2 ^ (column % 64)) → support m row c ≡ false)
  first_in_word = first_by_bits (support m row) column word fits bits_are
