-- The lowest bit of a word, from a position on: the first number that passes a test, if the bits of the word are the values of the
-- test.
use Rattle.std.proofs.Common.{◌≡◌, ◌<◌, ◌≤◌, ◌+◌, ◌-◌, ◌*◌, ◌/◌, ◌%◌, ◌^◌, ◌∙◌, ◌⊎◌, ℕ, Bool, true, false, cond, refl, ap, sym, subst, inl, inr, arith, w64}
use Rattle.std.specs.Int.{bit_at, trailing_zeros}
use Rattle.std.proofs.Math.Nat.{div-div-eq-div-mul}
use Rattle.std.proofs.lemmas.Bool.{cases_lt}
use Rattle.std.proofs.lemmas.Nat.{pow-add}
use Rattle.std.proofs.lemmas.Nat.Bits.{bit_at-trailing_zeros, bit_at-zero, bit_at_above}

bit_is : (b : Bool) (n : ℕ) → n ≡ cond b 1 0 → n ≡ 1 → b ≡ true
bit_is true n e h = refl
bit_is false n e h = absurd (omega arith)

no_bit_is : (b : Bool) (n : ℕ) → n ≡ cond b 1 0 → n ≡ 0 → b ≡ false
no_bit_is true n e h = absurd (omega arith)
no_bit_is false n e h = refl

pub moved : (n k i : ℕ) → bit_at (n / 2 ^ k) i ≡ bit_at n (k + i)
moved n k i = ap (λ (d : ℕ). d % 2) (div-div-eq-div-mul n (2 ^ k) (2 ^ i) ∙ ap (λ (p : ℕ). n / p) (sym (pow-add 2 k i)))

module _ (test : ℕ → Bool) (column word : ℕ) (fits : word < 2 ^ 64) (bits_are : (i : ℕ) → i < 64 → bit_at word i ≡ cond (test (64 * (column / 64) + i)) 1 0) where
  abbrev rest : ℕ
  rest = word / 2 ^ (column % 64)

  -- a bit of the word, from the column on
  bit : (i : ℕ) → column % 64 + i < 64 → bit_at (word / 2 ^ (column % 64)) i ≡ cond (test (column + i)) 1 0
  bit i small =
      let at : 64 * (column / 64) + (column % 64 + i) ≡ column + i = omega arith in
      moved word (column % 64) i ∙ bits_are (column % 64 + i) small ∙ ap (λ (c : ℕ). cond (test c) 1 0) at

  no_bit : (i : ℕ) → 64 ≤ column % 64 + i → bit_at (word / 2 ^ (column % 64)) i ≡ 0
  no_bit i high = moved word (column % 64) i ∙ bit_at_above word 64 (column % 64 + i) fits high

  -- the rest of the word is empty
  pub none_by_bits : word / 2 ^ (column % 64) ≡ 0 → (c : ℕ) → column ≤ c → c < column - column % 64 + 64 → test c ≡ false
  none_by_bits empty c low high =
      let at : column + (c - column) ≡ c = omega arith in
      subst (λ (x : ℕ). test x ≡ false) at
      (no_bit_is (test (column + (c - column))) (bit_at (word / 2 ^ (column % 64)) (c - column)) (bit (c - column) (omega arith)) (ap (λ (n : ℕ). bit_at n (c - column)) empty ∙ bit_at-zero (c - column)))

  -- the lowest bit of the rest is the bit of the first number that passes
  pub first_by_bits : 0 < word / 2 ^ (column % 64) → word / 2 ^ (column % 64) < 2 ^ 64
      → (test (column + trailing_zeros w64 (word / 2 ^ (column % 64))) ≡ true) × ((c : ℕ) → column ≤ c → c < column + trailing_zeros w64 (word / 2 ^ (column % 64)) → test c ≡ false)
  first_by_bits some low = go (bit_at-trailing_zeros w64 rest some low)
    where
      go : (trailing_zeros w64 rest < 64) × (bit_at rest (trailing_zeros w64 rest) ≡ 1) × ((i : ℕ) → i < trailing_zeros w64 rest → bit_at rest i ≡ 0)
          → (test (column + trailing_zeros w64 rest) ≡ true) × ((c : ℕ) → column ≤ c → c < column + trailing_zeros w64 rest → test c ≡ false)
      go (low, here, below) =
          let inside : column % 64 + trailing_zeros w64 rest < 64 = pick (cases_lt (column % 64 + trailing_zeros w64 rest) 64) in (
            bit_is (test (column + trailing_zeros w64 rest)) (bit_at rest (trailing_zeros w64 rest)) (bit (trailing_zeros w64 rest) inside) here,
            λ c l h.
                let at : column + (c - column) ≡ c = omega arith in
                subst (λ (x : ℕ). test x ≡ false) at
                (no_bit_is (test (column + (c - column))) (bit_at rest (c - column)) (bit (c - column) (omega arith)) (below (c - column) (omega arith))),
          )
        where
          pick : (column % 64 + trailing_zeros w64 rest < 64) ⊎ (64 ≤ column % 64 + trailing_zeros w64 rest) → column % 64 + trailing_zeros w64 rest < 64
          pick (inl l) = l
          pick (inr high) = absurd (let none = no_bit (trailing_zeros w64 rest) high in omega (arith, none, here))
