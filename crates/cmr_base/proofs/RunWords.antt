-- Words with a run of bits from other words.
use Rattle.std.proofs.Common.{◌≡◌, ◌<◌, ◌≤◌, ◌+◌, ◌-◌, ◌*◌, ◌/◌, ◌%◌, ◌^◌, ◌&&◌, ◌||◌, ◌∙◌, ◌⊎◌, ℕ, false, eqb, List, length, get_or, set, ap, ap₂, sym, subst, inl, inr, arith}
use Rattle.std.specs.Int.{bit_at}
use Rattle.std.specs.Int.Bits.{bit_and, bit_or}
use Rattle.std.proofs.lemmas.Bool.{cases_lt, cases_eq}
use Rattle.std.proofs.lemmas.List.{get_or-set_same, get_or-set_other, get_or_default, length-set}
use Rattle.std.proofs.lemmas.Nat.{or_lt, pow_pos}
use Rattle.std.proofs.lemmas.Nat.Bits.{bit_at-zero, bit_at_above, bit_at_ones, bit_at_ones_above, bit_at_cat_low, bit_at_cat_high}
use Rattle.cmr_base.specs.ColumnSets.{has_column}
use Rattle.cmr_base.specs.Planes.{has_bit}
use Rattle.cmr_base.specs.Runs.{IsRunAdded}
use Rattle.cmr_base.proofs.Booleans.{and_false, and_true, or_false}
use Rattle.cmr_base.proofs.ColumnWords.{column_at}
use Rattle.cmr_base.proofs.FirstBits.{moved}
use Rattle.cmr_base.proofs.WordBits.{has_bit-and, has_bit-or}

-- ---- the first bits of a word

module _ (word count : ℕ) (few : count ≤ 64) where
  pub first_inside : (k : ℕ) → k < count → has_bit (bit_and word (18446744073709551615 / 2 ^ (64 - count))) k ≡ has_bit word k
  first_inside k l =
      has_bit-and word (18446744073709551615 / 2 ^ (64 - count)) k
      ∙ ap (λ n. has_bit word k && eqb n 1) (moved 18446744073709551615 (64 - count) k ∙ bit_at_ones 64 (64 - count + k) (omega arith))
      ∙ and_true (has_bit word k)

  pub none_after : (k : ℕ) → count ≤ k → has_bit (bit_and word (18446744073709551615 / 2 ^ (64 - count))) k ≡ false
  none_after k l =
      has_bit-and word (18446744073709551615 / 2 ^ (64 - count)) k
      ∙ ap (λ n. has_bit word k && eqb n 1) (moved 18446744073709551615 (64 - count) k ∙ bit_at_ones_above 64 (64 - count + k) (omega arith))
      ∙ and_false (has_bit word k)

-- ---- a word that is shifted up

cut : (n k : ℕ) → k < 64 → bit_at (n % 2 ^ 64) k ≡ bit_at n k
cut n k small =
    let split : n / 2 ^ 64 * 2 ^ 64 + n % 2 ^ 64 ≡ n = omega arith in
    sym (bit_at_cat_low (n / 2 ^ 64) 64 (n % 2 ^ 64) k small) ∙ ap (λ x. bit_at x k) split

pub shifted_low : (n s k : ℕ) → k < 64 → k < s → has_bit (n * 2 ^ s % 2 ^ 64) k ≡ false
shifted_low n s k small l =
    let same : n * 2 ^ s ≡ n * 2 ^ s + 0 = omega arith in
    ap (λ b. eqb b 1) (cut (n * 2 ^ s) k small ∙ ap (λ x. bit_at x k) same ∙ bit_at_cat_low n s 0 k l ∙ bit_at-zero k)

pub shifted_high : (n s k : ℕ) → k < 64 → s ≤ k → has_bit (n * 2 ^ s % 2 ^ 64) k ≡ has_bit n (k - s)
shifted_high n s k small l =
    let same : n * 2 ^ s ≡ n * 2 ^ s + 0 = omega arith in
    ap (λ b. eqb b 1) (cut (n * 2 ^ s) k small ∙ ap (λ x. bit_at x k) same ∙ bit_at_cat_high n s 0 k (pow_pos s) l)

-- ---- the bits of words from a column on

module _ (words : List ℕ) (column : ℕ) where
  pub from_one : (k : ℕ) → column % 64 + k < 64 → has_bit (get_or words (column / 64) 0 / 2 ^ (column % 64)) k ≡ has_column words (column + k)
  from_one k l =
      let chunk : column / 64 ≡ (column + k) / 64 = omega arith in
      let place : column % 64 + k ≡ (column + k) % 64 = omega arith in
      ap (λ b. eqb b 1) (moved (get_or words (column / 64) 0) (column % 64) k) ∙ ap₂ (λ b p. has_bit (get_or words b 0) p) chunk place

  pub from_two : (k : ℕ) → get_or words (column / 64) 0 < 2 ^ 64 → k < 64
      → has_bit (bit_or (get_or words (column / 64) 0 / 2 ^ (column % 64)) (get_or words (column / 64 + 1) 0 * 2 ^ (64 - column % 64) % 2 ^ 64)) k ≡ has_column words (column + k)
  from_two k fits small =
      has_bit-or (get_or words (column / 64) 0 / 2 ^ (column % 64)) (get_or words (column / 64 + 1) 0 * 2 ^ (64 - column % 64) % 2 ^ 64) k
      ∙ go (cases_lt (column % 64 + k) 64)
    where
      go : (column % 64 + k < 64) ⊎ (64 ≤ column % 64 + k)
          → (has_bit (get_or words (column / 64) 0 / 2 ^ (column % 64)) k || has_bit (get_or words (column / 64 + 1) 0 * 2 ^ (64 - column % 64) % 2 ^ 64) k) ≡ has_column words (column + k)
      go (inl l) =
          ap₂ (λ a b. a || b) (from_one k l) (shifted_low (get_or words (column / 64 + 1) 0) (64 - column % 64) k small (omega arith)) ∙ or_false (has_column words (column + k))
      go (inr h) =
          let chunk : column / 64 + 1 ≡ (column + k) / 64 = omega arith in
          let place : k - (64 - column % 64) ≡ (column + k) % 64 = omega arith in
          ap₂ (λ a b. a || b)
          (ap (λ b. eqb b 1) (moved (get_or words (column / 64) 0) (column % 64) k ∙ bit_at_above (get_or words (column / 64) 0) 64 (column % 64 + k) fits h))
          (shifted_high (get_or words (column / 64 + 1) 0) (64 - column % 64) k small (omega arith))
          ∙ ap₂ (λ b p. has_bit (get_or words b 0) p) chunk place

-- ---- a run is added

module _ (words : List ℕ) (column size : ℕ) (before : List ℕ) (at place old bits : ℕ) (in_word : place % 64 + size ≤ 64) (room : at + place / 64 < length before) (is : old ≡ get_or before (at + place / 64) old)
    (inside : (k : ℕ) → k < size → has_bit bits k ≡ has_column words (column + k)) (past : (k : ℕ) → size ≤ k → has_bit bits k ≡ false) where
  abbrev chunk : ℕ
  chunk = at + place / 64

  abbrev joined : ℕ
  joined = bit_or old (bits * 2 ^ (place % 64) % 2 ^ 64)

  abbrev after : List ℕ
  after = set before chunk joined

  here : (k : ℕ) → k < 64 → has_column after (64 * chunk + k) ≡ (has_column before (64 * chunk + k) || has_bit (bits * 2 ^ (place % 64) % 2 ^ 64) k)
  here k small =
      column_at after chunk k small ∙ ap (λ w. has_bit w k) (get_or-set_same before chunk joined 0 room) ∙ has_bit-or old (bits * 2 ^ (place % 64) % 2 ^ 64) k
      ∙ ap (λ b. b || has_bit (bits * 2 ^ (place % 64) % 2 ^ 64) k) (ap (λ w. has_bit w k) (is ∙ get_or_default before chunk old 0 room) ∙ sym (column_at before chunk k small))

  pub run_added : IsRunAdded words column size (64 * at + place) before after
  run_added = record {
    long = length-set before chunk joined;
    are_words = λ each k. elim (cases_eq k chunk) [
      | inl e ↦ subst (λ n. n < 2 ^ 64) (sym (ap (λ j. get_or after j 0) e ∙ get_or-set_same before chunk joined 0 room)) (or_lt 64 old (bits * 2 ^ (place % 64) % 2 ^ 64) (subst (λ n. n < 2 ^ 64) (sym (is ∙ get_or_default before chunk old 0 room)) (each chunk)) (omega arith))
      | inr d ↦ subst (λ n. n < 2 ^ 64) (sym (get_or-set_other before chunk k joined 0 d)) (each k)
    ];
    added = λ k l.
        let at_k : 64 * chunk + (place % 64 + k) ≡ 64 * at + place + k = omega arith in
        let small : place % 64 + k < 64 = omega arith in
        let back : place % 64 + k - place % 64 ≡ k = omega arith in
        subst (λ c. has_column after c ≡ (has_column before c || has_column words (column + k))) at_k
        (here (place % 64 + k) small
        ∙ ap (λ b. has_column before (64 * chunk + (place % 64 + k)) || b) (shifted_high bits (place % 64) (place % 64 + k) small (omega arith) ∙ ap (has_bit bits) back ∙ inside k l));
    others = λ c h. elim (cases_eq (c / 64) chunk) [
      | inl e ↦
          let at_c : 64 * chunk + c % 64 ≡ c = omega (arith, e) in
          subst (λ x. has_column after x ≡ has_column before x) at_c
          (here (c % 64) (omega arith) ∙ ap (λ b. has_column before (64 * chunk + c % 64) || b) (outside c e h (cases_lt (c % 64) (place % 64))) ∙ or_false (has_column before (64 * chunk + c % 64)))
      | inr d ↦ ap (λ w. has_bit w (c % 64)) (get_or-set_other before chunk (c / 64) joined 0 d)
    ];
  }
    where
      outside : (c : ℕ) → c / 64 ≡ chunk → (c < 64 * at + place) ⊎ (64 * at + place + size ≤ c) → (c % 64 < place % 64) ⊎ (place % 64 ≤ c % 64)
          → has_bit (bits * 2 ^ (place % 64) % 2 ^ 64) (c % 64) ≡ false
      outside c e h (inl l) = shifted_low bits (place % 64) (c % 64) (omega arith) l
      outside c e (inl h) (inr l) = absurd (omega (arith, e, h, l))
      outside c e (inr h) (inr l) = shifted_high bits (place % 64) (c % 64) (omega arith) l ∙ past (c % 64 - place % 64) (omega (arith, e, h, l))
