-- Rows that agree in signs, word by word.
use Rattle.std.proofs.Common.{◌≡◌, ◌≢◌, ◌<◌, ◌+◌, ◌*◌, ◌/◌, ◌%◌, ◌^◌, ◌&&◌, ◌∙◌, ℕ, ℤ, pos, ◌+ℤ◌, Bool, true, false, eqb, List, length, get_or, sym, ap, ap₂, refl, arith, w64, ◌⊎◌, inl, inr}
use Rattle.std.specs.Int.{bit_at, bit_not}
use Rattle.std.specs.Int.Bits.{bit_and, bit_xor}
use Rattle.std.proofs.lemmas.Bool.{cases_lt, true≢false}
use Rattle.std.proofs.lemmas.Nat.{xor_lt}
use Rattle.std.proofs.lemmas.Nat.Bits.{bit_at-lt, bit_at_xor}
use Rattle.cmr_base.specs.Matrix.{Matrix, height, entry, row_of, is_nonzero, IsEntry, IsMatrix}
use Rattle.cmr_base.specs.Planes.{has_bit, is_minus, words_for, words_of}
use Rattle.cmr_base.specs.ColumnSets.{has_column}
use Rattle.cmr_base.specs.Signing.{IsSign}
use Rattle.cmr_base.proofs.Booleans.{eq_of, is_nonzero_is}
use Rattle.cmr_base.proofs.ColumnWords.{column_at, in_chunk, words_columns, no_bits_shared, part_bits}
use Rattle.cmr_base.proofs.PlaneWords.{length-words_of, word-words_of, bit-word_of, one_bit}
use Rattle.cmr_base.proofs.WordBits.{has_bit-and, zero_or_one}
use Rattle.ghouila.proofs.SignedSums.{zero_or_sign}
use Rattle.camion_sign.proofs.EntryTests.{pair_two, sign_of}
use Rattle.camion_sign.proofs.Steps.{within}
use Rattle.camion_sign.specs.RowSigns.{AgreeInSigns, HaveEqualSigns, HaveOppositeSigns}
use Rattle.camion_sign.specs.Walks.{TwoIf}

-- ---- bits of two words

unequal : (a b : ℕ) → (a ≡ 0) ⊎ (a ≡ 1) → (b ≡ 0) ⊎ (b ≡ 1) → ¬ (eqb a 1 ≡ eqb b 1) → eqb ((a + b) % 2) 1 ≡ true
unequal a b (inl e) (inl f) n = absurd (n (rw (e, f) refl))
unequal a b (inl e) (inr f) n = rw (e, f) refl
unequal a b (inr e) (inl f) n = rw (e, f) refl
unequal a b (inr e) (inr f) n = absurd (n (rw (e, f) refl))

equal : (a b : ℕ) → (a ≡ 0) ⊎ (a ≡ 1) → (b ≡ 0) ⊎ (b ≡ 1) → eqb a 1 ≡ eqb b 1 → eqb ((a + b) % 2) 1 ≡ false
equal a b (inl e) (inl f) n = rw (e, f) refl
equal a b (inl e) (inr f) n = absurd (true≢false (sym (ap (λ (t : ℕ). eqb t 1) f) ∙ sym n ∙ ap (λ (t : ℕ). eqb t 1) e))
equal a b (inr e) (inl f) n = absurd (true≢false (sym (ap (λ (t : ℕ). eqb t 1) e) ∙ n ∙ ap (λ (t : ℕ). eqb t 1) f))
equal a b (inr e) (inr f) n = rw (e, f) refl

bits_apart : (a b k : ℕ) → (has_bit a k ≡ has_bit b k → ⊥) → has_bit (bit_xor a b) k ≡ true
bits_apart a b k n = ap (λ (t : ℕ). eqb t 1) (bit_at_xor a b k) ∙ unequal (bit_at a k) (bit_at b k) (zero_or_one (bit_at a k) (bit_at-lt a k)) (zero_or_one (bit_at b k) (bit_at-lt b k)) n

bits_same : (a b k : ℕ) → has_bit a k ≡ has_bit b k → has_bit (bit_xor a b) k ≡ false
bits_same a b k e = ap (λ (t : ℕ). eqb t 1) (bit_at_xor a b k) ∙ equal (bit_at a k) (bit_at b k) (zero_or_one (bit_at a k) (bit_at-lt a k)) (zero_or_one (bit_at b k) (bit_at-lt b k)) e

not_apart : (s t : Bool) → ((s ≡ t → ⊥) → ⊥) → s ≡ t
not_apart true true f = refl
not_apart false false f = refl
not_apart true false f = absurd (f (λ e. true≢false e))
not_apart false true f = absurd (f (λ e. true≢false (sym e)))

-- the tests of the code
pub equal_bits : (common a b : ℕ) → eqb (bit_and common (bit_xor a b)) 0 ≡ true → (k : ℕ) → has_bit common k ≡ true → has_bit a k ≡ has_bit b k
equal_bits common a b e k h = not_apart (has_bit a k) (has_bit b k) (λ n. no_bits_shared common (bit_xor a b) k (eq_of (bit_and common (bit_xor a b)) 0 e) h (bits_apart a b k n))

pub opposite_bits : (common a b : ℕ) → a < 2 ^ 64 → b < 2 ^ 64 → eqb (bit_and common (bit_not w64 (bit_xor a b))) 0 ≡ true → (k : ℕ) → k < 64 → has_bit common k ≡ true → has_bit a k ≢ has_bit b k
opposite_bits common a b fa fb e k small h same = true≢false (sym (part_bits common (bit_xor a b) (xor_lt 64 a b fa fb) e k small h) ∙ bits_same a b k same)

-- ---- word after word

module _ (support minus other other_minus : List ℕ) (chunk : ℕ) where
  -- the bits of a column in its chunk
  common_bit : (x : ℕ) → 64 * chunk + x % 64 ≡ x → x % 64 < 64 → has_column support x ≡ true → has_column other x ≡ true
      → has_bit (bit_and (get_or support chunk 0) (get_or other chunk 0)) (x % 64) ≡ true
  common_bit x at small a b =
      has_bit-and (get_or support chunk 0) (get_or other chunk 0) (x % 64)
      ∙ ap₂ (λ s t. s && t) (sym (column_at support chunk (x % 64) small) ∙ ap (has_column support) at ∙ a) (sym (column_at other chunk (x % 64) small) ∙ ap (has_column other) at ∙ b)

  bit_here : (words : List ℕ) (x : ℕ) → 64 * chunk + x % 64 ≡ x → x % 64 < 64 → has_column words x ≡ has_bit (get_or words chunk 0) (x % 64)
  bit_here words x at small = ap (has_column words) (sym at) ∙ column_at words chunk (x % 64) small

  pub more_equal : ((x : ℕ) → x < 64 * chunk → has_column support x ≡ true → has_column other x ≡ true → has_column minus x ≡ has_column other_minus x)
      → ((k : ℕ) → k < 64 → has_bit (bit_and (get_or support chunk 0) (get_or other chunk 0)) k ≡ true → has_bit (get_or minus chunk 0) k ≡ has_bit (get_or other_minus chunk 0) k)
      → (x : ℕ) → x < 64 * (chunk + 1) → has_column support x ≡ true → has_column other x ≡ true → has_column minus x ≡ has_column other_minus x
  more_equal so all x h a b = elim (cases_lt x (64 * chunk)) [
    | inl l ↦ so x l a b
    | inr l ↦
        let at = in_chunk x chunk l h in
        let small : x % 64 < 64 = omega arith in
        bit_here minus x at small ∙ all (x % 64) small (common_bit x at small a b) ∙ sym (bit_here other_minus x at small)
  ]

  pub more_opposite : ((x : ℕ) → x < 64 * chunk → has_column support x ≡ true → has_column other x ≡ true → has_column minus x ≢ has_column other_minus x)
      → ((k : ℕ) → k < 64 → has_bit (bit_and (get_or support chunk 0) (get_or other chunk 0)) k ≡ true → has_bit (get_or minus chunk 0) k ≢ has_bit (get_or other_minus chunk 0) k)
      → (x : ℕ) → x < 64 * (chunk + 1) → has_column support x ≡ true → has_column other x ≡ true → has_column minus x ≢ has_column other_minus x
  more_opposite so all x h a b same = elim (cases_lt x (64 * chunk)) [
    | inl l ↦ so x l a b same
    | inr l ↦
        let at = in_chunk x chunk l h in
        let small : x % 64 < 64 = omega arith in
        all (x % 64) small (common_bit x at small a b) (sym (bit_here minus x at small) ∙ same ∙ bit_here other_minus x at small)
  ]

-- ---- rows of a matrix

pub minus_long : (m : Matrix) (row : ℕ) (words : List ℕ) → words ≡ words_of (words_for m.width) is_minus (row_of m row) → length words ≡ words_for m.width
minus_long m row words is = ap length is ∙ length-words_of (words_for m.width) is_minus (row_of m row)

minus_columns : (m : Matrix) (row x : ℕ) (words : List ℕ) → words ≡ words_of (words_for m.width) is_minus (row_of m row) → x < m.width → has_column words x ≡ is_minus (entry m row x)
minus_columns m row x words is l =
    ap (λ (ws : List ℕ). has_column ws x) is
    ∙ ap (λ (word : ℕ). has_bit word (x % 64)) (word-words_of (words_for m.width) is_minus (row_of m row) (x / 64) (omega arith))
    ∙ ap (λ (n : ℕ). eqb n 1) (bit-word_of is_minus (row_of m row) (x / 64) (x % 64) refl (omega arith))
    ∙ one_bit (is_minus (entry m row (64 * (x / 64) + x % 64)))
    ∙ ap (λ (y : ℕ). is_minus (entry m row y)) same
  where
    same : 64 * (x / 64) + x % 64 ≡ x
    same = omega arith

same_sign : (a b : ℤ) → IsSign a → IsSign b → is_minus a ≡ is_minus b → a ≡ b
same_sign a b (inl e) (inl f) n = e ∙ sym f
same_sign a b (inr e) (inr f) n = e ∙ sym f
same_sign a b (inl e) (inr f) n = absurd (true≢false (sym (ap is_minus f) ∙ sym n ∙ ap is_minus e))
same_sign a b (inr e) (inl f) n = absurd (true≢false (sym (ap is_minus e) ∙ n ∙ ap is_minus f))

-- the sum of two nonzeros of a row, by their signs
pub signs_two : (m : Matrix) (row x y : ℕ) (words : List ℕ) (same : Bool) → words ≡ words_of (words_for m.width) is_minus (row_of m row)
    → ((i j : ℕ) → IsEntry (entry m i j)) → x < m.width → y < m.width → entry m row x ≢ pos 0 → entry m row y ≢ pos 0
    → (same ≡ true → has_column words x ≡ has_column words y) → (has_column words x ≡ has_column words y → same ≡ true) → TwoIf same (entry m row x +ℤ entry m row y)
signs_two m row x y words same is small low high from to equal back =
    let one = sign_of m row x small from in
    let other = sign_of m row y small to in
    let minus_x = minus_columns m row x words is low in
    let minus_y = minus_columns m row y words is high in
    pair_two (entry m row x) (entry m row y) same one other
    (λ t. same_sign (entry m row x) (entry m row y) one other (sym minus_x ∙ equal t ∙ minus_y))
    (λ f e. true≢false (sym (back (minus_x ∙ ap is_minus e ∙ sym minus_y)) ∙ f))

module _ (m : Matrix) (one two : ℕ) (shape : IsMatrix m) (tall_one : one < height m) (tall_two : two < height m) (support minus other other_minus : List ℕ)
    (is_support : support ≡ words_of (words_for m.width) is_nonzero (row_of m one)) (is_minus_words : minus ≡ words_of (words_for m.width) is_minus (row_of m one))
    (is_other : other ≡ words_of (words_for m.width) is_nonzero (row_of m two)) (is_other_minus : other_minus ≡ words_of (words_for m.width) is_minus (row_of m two)) where
  in_one : (x : ℕ) → entry m one x ≢ pos 0 → has_column support x ≡ true
  in_one x n = words_columns m one support is_support shape tall_one x ∙ is_nonzero_is (entry m one x) n

  in_two : (x : ℕ) → entry m two x ≢ pos 0 → has_column other x ≡ true
  in_two x n = words_columns m two other is_other shape tall_two x ∙ is_nonzero_is (entry m two x) n

  unit : (i x : ℕ) → entry m i x ≢ pos 0 → IsSign (entry m i x)
  unit i x h = elim (zero_or_sign (entry m i x) (shape.small i x)) [ inl z ↦ absurd (h z) | inr u ↦ u ]

  pub rows_agree : HaveEqualSigns support minus other other_minus ⊎ HaveOppositeSigns support minus other other_minus → AgreeInSigns m one two
  rows_agree (inl same) = inl (λ x a b.
      let l = within m one x shape tall_one a in
      same_sign (entry m one x) (entry m two x) (unit one x a) (unit two x b)
      (sym (minus_columns m one x minus is_minus_words l) ∙ same x (in_one x a) (in_two x b) ∙ minus_columns m two x other_minus is_other_minus l))
  rows_agree (inr apart) = inr (λ x a b e.
      let l = within m one x shape tall_one a in
      apart x (in_one x a) (in_two x b) (minus_columns m one x minus is_minus_words l ∙ ap is_minus e ∙ sym (minus_columns m two x other_minus is_other_minus l)))
