-- Sets of columns, word by word.
use Rattle.std.proofs.Common.{◌≡◌, ◌≢◌, ◌<◌, ◌≤◌, ◌+◌, ◌-◌, ◌*◌, ◌/◌, ◌%◌, ◌^◌, ◌&&◌, ◌||◌, ◌∙◌, ℕ, zero, suc, Bool, true, false, not, eqb, cond, List, length, get_or, set, sym, ap, ap₂, subst, refl, arith, ◌⊎◌, inl, inr, w64}
use Rattle.std.specs.Int.{bit_at, bit_not, trailing_zeros}
use Rattle.std.specs.Int.Bits.{bit_and, bit_or, and_lt}
use Rattle.std.proofs.Math.Nat.{div-le_self}
use Rattle.std.proofs.lemmas.Bool.{cases_lt, true≢false}
use Rattle.std.proofs.lemmas.List.{get_or-set_same, get_or-set_other, get_or_default, get_or_past, length-set}
use Rattle.std.proofs.lemmas.Nat.Bits.{bit_at-lt, bit_at-trailing_zeros}
use Rattle.cmr_base.specs.Matrix.{Matrix, height, row_of, is_nonzero, IsMatrix}
use Rattle.cmr_base.specs.Planes.{has_bit, words_for, words_of}
use Rattle.cmr_base.specs.Trees.{support}
use Rattle.cmr_base.proofs.Booleans.{and_is, and_not, or_false}
use Rattle.cmr_base.proofs.NextNonzeros.{column_in}
use Rattle.cmr_base.proofs.PlaneWords.{length-words_of, word-words_of}
use Rattle.cmr_base.proofs.FirstBits.{first_by_bits, none_by_bits}
use Rattle.cmr_base.proofs.RowLists.{is_eq, is_ne, same_or_not}
use Rattle.std.specs.Prelude.{◌↔◌}
use Rattle.cmr_base.specs.ColumnSets.{has_column, Denies, HasCommon, IsApart, IsWithin, IsAdded}
use Rattle.cmr_base.proofs.WordBits.{has_bit-and, has_bit-not, has_bit-or, has_bit-zero, bit_at_chunk}

-- a column by its chunk and its position in the chunk
pub chunk_of : (chunk k : ℕ) → k < 64 → (64 * chunk + k) / 64 ≡ chunk
chunk_of chunk k l = omega arith

pub place_of : (chunk k : ℕ) → k < 64 → (64 * chunk + k) % 64 ≡ k
place_of chunk k l = omega arith

pub column_at : (words : List ℕ) (chunk k : ℕ) → k < 64 → has_column words (64 * chunk + k) ≡ has_bit (get_or words chunk 0) k
column_at words chunk k l = ap (λ b. has_bit (get_or words b 0) ((64 * chunk + k) % 64)) (chunk_of chunk k l) ∙ ap (has_bit (get_or words chunk 0)) (place_of chunk k l)

-- no column is past the last word
pub none_past : (words : List ℕ) (column : ℕ) → 64 * length words ≤ column → has_column words column ≡ false
none_past words column l = ap (λ word. has_bit word (column % 64)) (get_or_past words (column / 64) 0 (omega arith)) ∙ has_bit-zero (column % 64)

-- the words of a row of a matrix are the set of its nonzeros
pub row_columns : (m : Matrix) (row : ℕ) → IsMatrix m → row < height m → (column : ℕ) → has_column (words_of (words_for m.width) is_nonzero (row_of m row)) column ≡ support m row column
row_columns m row is l column = go (cases_lt (column / 64) (words_for m.width))
  where
    same : 64 * (column / 64) + column % 64 ≡ column
    same = omega arith

    past : words_for m.width ≤ column / 64 → (t : Bool) → support m row column ≡ t → support m row column ≡ false
    past k true e = let inside = column_in m row column is l e in absurd (omega arith)
    past k false e = e

    go : (column / 64 < words_for m.width) ⊎ (words_for m.width ≤ column / 64) → has_column (words_of (words_for m.width) is_nonzero (row_of m row)) column ≡ support m row column
    go (inl k) =
        ap (λ word. has_bit word (column % 64)) (word-words_of (words_for m.width) is_nonzero (row_of m row) (column / 64) k)
        ∙ bit_at_chunk m row (column / 64) (column % 64) (omega arith) ∙ ap (support m row) same
    go (inr k) =
        none_past (words_of (words_for m.width) is_nonzero (row_of m row)) column (let e = length-words_of (words_for m.width) is_nonzero (row_of m row) in omega arith)
        ∙ sym (past k (support m row column) refl)

-- the same for words that are equal to the words of a row
pub words_long : (m : Matrix) (row : ℕ) (words : List ℕ) → words ≡ words_of (words_for m.width) is_nonzero (row_of m row) → length words ≡ words_for m.width
words_long m row words is = ap length is ∙ length-words_of (words_for m.width) is_nonzero (row_of m row)

pub words_columns : (m : Matrix) (row : ℕ) (words : List ℕ) → words ≡ words_of (words_for m.width) is_nonzero (row_of m row) → IsMatrix m → row < height m
    → (column : ℕ) → has_column words column ≡ support m row column
words_columns m row words is shape l column = ap (λ ws. has_column ws column) is ∙ row_columns m row shape l column

-- ---- columns that are added

module _ (test : ℕ → Bool) (before : List ℕ) where
  pub added_none : IsAdded test before before 0
  added_none = record { size = refl; done = λ column l. absurd (omega arith); left = λ column l. refl }

  pub added_word : (after : List ℕ) (chunk old word : ℕ) → IsAdded test before after chunk → chunk < length after → old ≡ get_or after chunk old
      → ((k : ℕ) → k < 64 → has_bit word k ≡ test (64 * chunk + k))
      → IsAdded test before (set after chunk (bit_or old word)) (chunk + 1)
  added_word after chunk old word a l is bits = record {
    size = length-set after chunk (bit_or old word) ∙ a.size;
    done = λ column h. go column h (cases_lt column (64 * chunk));
    left = λ column h. other column (λ e. absurd (omega arith)) ∙ a.left column (omega arith);
  }
    where
      after' : List ℕ
      after' = set after chunk (bit_or old word)

      other : (column : ℕ) → (column / 64 ≡ chunk → ⊥) → has_column after' column ≡ has_column after column
      other column n = ap (λ w. has_bit w (column % 64)) (get_or-set_other after chunk (column / 64) (bit_or old word) 0 n)

      here : (k : ℕ) → k < 64 → has_column after' (64 * chunk + k) ≡ (has_column before (64 * chunk + k) || test (64 * chunk + k))
      here k s =
          column_at after' chunk k s
          ∙ ap (λ w. has_bit w k) (get_or-set_same after chunk (bit_or old word) 0 l)
          ∙ has_bit-or old word k
          ∙ ap₂ (λ a b. a || b) (ap (λ w. has_bit w k) (is ∙ get_or_default after chunk old 0 l) ∙ sym (column_at after chunk k s) ∙ a.left (64 * chunk + k) (omega arith)) (bits k s)

      go : (column : ℕ) → column < 64 * (chunk + 1) → (column < 64 * chunk) ⊎ (64 * chunk ≤ column) → has_column after' column ≡ (has_column before column || test column)
      go column h (inl k) = other column (λ e. absurd (omega arith)) ∙ a.done column k
      go column h (inr k) =
          let at : 64 * chunk + column % 64 ≡ column = omega arith in
          subst (λ x. has_column after' x ≡ (has_column before x || test x)) at (here (column % 64) (omega arith))

  pub added_all : (after : List ℕ) (chunk : ℕ) → IsAdded test before after chunk → length before ≤ chunk → ((column : ℕ) → 64 * length before ≤ column → test column ≡ false)
      → (column : ℕ) → has_column after column ≡ (has_column before column || test column)
  added_all after chunk a l none column = go (cases_lt column (64 * chunk))
    where
      go : (column < 64 * chunk) ⊎ (64 * chunk ≤ column) → has_column after column ≡ (has_column before column || test column)
      go (inl k) = a.done column k
      go (inr k) = a.left column k ∙ sym (ap (λ t. has_column before column || t) (none column (omega arith)) ∙ or_false (has_column before column))

-- ---- bits of two words

zero_bits : (n : ℕ) → n < 2 ^ 64 → ((k : ℕ) → k < 64 → has_bit n k ≡ false) → n ≡ 0
zero_bits n fits none = elim (cases_lt 0 n) [
  | inl some ↦ let b = bit_at-trailing_zeros w64 n some fits in absurd (true≢false (sym (ap (λ bit. eqb bit 1) b.1) ∙ none (trailing_zeros w64 n) b.0))
  | inr l ↦ omega arith
]

pub some_bit : (n : ℕ) → n < 2 ^ 64 → n ≢ 0 → (k : ℕ) × (k < 64) × (has_bit n k ≡ true)
some_bit n fits n0 = let b = bit_at-trailing_zeros w64 n (omega arith) fits in (trailing_zeros w64 n, b.0, ap (λ bit. eqb bit 1) b.1)

-- two words share a bit
pub bits_shared : (a b : ℕ) → a < 2 ^ 64 → b < 2 ^ 64 → bit_and a b ≢ 0 → (k : ℕ) × (k < 64) × (has_bit a k ≡ true) × (has_bit b k ≡ true)
bits_shared a b fa fb n =
    let s = some_bit (bit_and a b) (and_lt 64 a b fa fb) n in
    let both = and_is (has_bit a s.0) (has_bit b s.0) (sym (has_bit-and a b s.0) ∙ s.2) in
    (s.0, s.1, both.0, both.1)

pub no_bits_shared : (a b k : ℕ) → bit_and a b ≡ 0 → has_bit a k ≡ true → has_bit b k ≡ true → ⊥
no_bits_shared a b k e ha hb = true≢false (sym (has_bit-and a b k ∙ ap₂ (λ s t. s && t) ha hb) ∙ ap (λ n. has_bit n k) e ∙ has_bit-zero k)

pub nonzero_is : (n : ℕ) → not (eqb n 0) ≡ true → n ≢ 0
nonzero_is n e z = true≢false (sym e ∙ ap not (is_eq n 0 z))

pub is_nonzero_test : (n : ℕ) → n ≢ 0 → not (eqb n 0) ≡ true
is_nonzero_test n z = ap not (is_ne n 0 z)

zero_is : (n : ℕ) → eqb n 0 ≡ true → n ≡ 0
zero_is n e = go (same_or_not n 0)
  where
    go : (n ≡ 0) ⊎ (n ≢ 0) → n ≡ 0
    go (inl z) = z
    go (inr z) = absurd (true≢false (sym e ∙ is_ne n 0 z))

-- each bit of the first word is a bit of the second word
pub part_bits : (a b : ℕ) → b < 2 ^ 64 → eqb (bit_and a (bit_not w64 b)) 0 ≡ true → (k : ℕ) → k < 64 → has_bit a k ≡ true → has_bit b k ≡ true
part_bits a b fb e k small h = and_not (has_bit a k) (has_bit b k) (sym (omitted a b fb k small) ∙ ap (λ n. has_bit n k) (zero_is (bit_and a (bit_not w64 b)) e) ∙ has_bit-zero k) h
  where
    omitted : (a b : ℕ) → b < 2 ^ 64 → (k : ℕ) → k < 64 → has_bit (bit_and a (bit_not w64 b)) k ≡ (has_bit a k && not (has_bit b k))
    omitted a b fb k small = has_bit-and a (bit_not w64 b) k ∙ ap (λ t. has_bit a k && t) (has_bit-not b k fb small)

pub is_part_word : (a b : ℕ) → a < 2 ^ 64 → b < 2 ^ 64 → ((k : ℕ) → k < 64 → has_bit a k ≡ true → has_bit b k ≡ true) → eqb (bit_and a (bit_not w64 b)) 0 ≡ true
is_part_word a b fa fb all =
    is_eq (bit_and a (bit_not w64 b)) 0 (zero_bits (bit_and a (bit_not w64 b)) (and_lt 64 a (bit_not w64 b) fa (omega arith))
    (λ k small. has_bit-and a (bit_not w64 b) k ∙ ap (λ t. has_bit a k && t) (has_bit-not b k fb small) ∙ none (has_bit a k) (has_bit b k) (all k small)))
  where
    none : (s t : Bool) → (s ≡ true → t ≡ true) → (s && not t) ≡ false
    none true true f = refl
    none true false f = absurd (true≢false (sym (f refl)))
    none false t f = refl

-- ---- word after word

pub in_chunk : (column chunk : ℕ) → 64 * chunk ≤ column → column < 64 * (chunk + 1) → 64 * chunk + column % 64 ≡ column
in_chunk column chunk l h = omega arith

pub empty_more : (words : List ℕ) (chunk : ℕ) → ((k : ℕ) → k < 64 * chunk → has_column words k ≡ false) → get_or words chunk 0 ≡ 0 → (k : ℕ) → k < 64 * (chunk + 1) → has_column words k ≡ false
empty_more words chunk so none k h = elim (cases_lt k (64 * chunk)) [
  | inl l ↦ so k l
  | inr l ↦ let at : k / 64 ≡ chunk = omega arith in ap (λ word. has_bit word (k % 64)) (ap (λ place. get_or words place 0) at ∙ none) ∙ has_bit-zero (k % 64)
]

module _ (one two : List ℕ) (chunk : ℕ) where
  pub unshared : ((k : ℕ) → k < 64 * chunk → has_column one k ≡ true → has_column two k ≡ false)
      → ((k : ℕ) → k < 64 → has_bit (get_or one chunk 0) k ≡ true → has_bit (get_or two chunk 0) k ≡ true → ⊥)
      → (k : ℕ) → k < 64 * (chunk + 1) → has_column one k ≡ true → has_column two k ≡ false
  unshared so none k h a = elim (cases_lt k (64 * chunk)) [
    | inl l ↦ so k l a
    | inr l ↦
        let at = in_chunk k chunk l h in
        let small : k % 64 < 64 = omega arith in
        pick (has_column two k) refl (λ b. none (k % 64) small (sym (column_at one chunk (k % 64) small) ∙ ap (has_column one) at ∙ a) (sym (column_at two chunk (k % 64) small) ∙ ap (has_column two) at ∙ b))
  ]
    where
      pick : (t : Bool) → has_column two k ≡ t → (t ≡ true → ⊥) → t ≡ false
      pick true e n = absurd (n refl)
      pick false e n = refl

  pub within_more : ((k : ℕ) → k < 64 * chunk → has_column one k ≡ true → has_column two k ≡ true) → ((k : ℕ) → k < 64 → has_bit (get_or one chunk 0) k ≡ true → has_bit (get_or two chunk 0) k ≡ true)
      → (k : ℕ) → k < 64 * (chunk + 1) → has_column one k ≡ true → has_column two k ≡ true
  within_more so all k h a = elim (cases_lt k (64 * chunk)) [
    | inl l ↦ so k l a
    | inr l ↦
        let at = in_chunk k chunk l h in
        let small : k % 64 < 64 = omega arith in
        ap (has_column two) (sym at) ∙ column_at two chunk (k % 64) small ∙ all (k % 64) small (sym (column_at one chunk (k % 64) small) ∙ ap (has_column one) at ∙ a)
  ]

-- ---- the next column of a set

module _ (words : List ℕ) (from column : ℕ) (fits : get_or words (column / 64) 0 < 2 ^ 64) where
  bits_are : (i : ℕ) → i < 64 → bit_at (get_or words (column / 64) 0) i ≡ cond (has_column words (64 * (column / 64) + i)) 1 0
  bits_are i small = bit_of (bit_at (get_or words (column / 64) 0) i) (bit_at-lt (get_or words (column / 64) 0) i) ∙ ap (λ t. cond t 1 0) (sym (column_at words (column / 64) i small))
    where
      bit_of : (b : ℕ) → b < 2 → b ≡ cond (eqb b 1) 1 0
      bit_of zero l = refl
      bit_of (suc zero) l = refl
      bit_of (suc (suc b)) l = absurd (omega arith)

  inside : (c : ℕ) → has_column words c ≡ true → c < 64 * length words
  inside c h = elim (cases_lt c (64 * length words)) [
    | inl l ↦ l
    | inr l ↦ absurd (true≢false (sym h ∙ none_past words c l))
  ]

  pub next_found : from ≤ column → ((c : ℕ) → from ≤ c → c < column → has_column words c ≡ false) → 0 < get_or words (column / 64) 0 / 2 ^ (column % 64)
      → (from ≤ column + trailing_zeros w64 (get_or words (column / 64) 0 / 2 ^ (column % 64))) × (column + trailing_zeros w64 (get_or words (column / 64) 0 / 2 ^ (column % 64)) < 64 * length words)
      × (has_column words (column + trailing_zeros w64 (get_or words (column / 64) 0 / 2 ^ (column % 64))) ≡ true)
      × ((c : ℕ) → from ≤ c → c < column + trailing_zeros w64 (get_or words (column / 64) 0 / 2 ^ (column % 64)) → has_column words c ≡ false)
  next_found low none some =
      let less = div-le_self (get_or words (column / 64) 0) (2 ^ (column % 64)) in
      let first = first_by_bits (has_column words) column (get_or words (column / 64) 0) fits bits_are some (omega (arith, fits, less)) in (
        omega arith,
        inside (column + trailing_zeros w64 (get_or words (column / 64) 0 / 2 ^ (column % 64))) first.0,
        first.0,
        λ c l h. elim (cases_lt c column) [ inl before ↦ none c l before | inr after ↦ first.1 c after h ],
      )

  pub next_skips : ((c : ℕ) → from ≤ c → c < column → has_column words c ≡ false) → get_or words (column / 64) 0 / 2 ^ (column % 64) ≡ 0 → (c : ℕ) → from ≤ c
      → c < column - column % 64 + 64 → has_column words c ≡ false
  next_skips none empty c l h = elim (cases_lt c column) [
    | inl before ↦ none c l before
    | inr after ↦ none_by_bits (has_column words) column (get_or words (column / 64) 0) fits bits_are empty c after h
  ]

-- ---- two sets by two tests

pub cut_by_tests : (one two : List ℕ) (s t : Bool) → (s ≡ true) ↔ HasCommon one two → (t ≡ true) ↔ IsWithin one two → Denies (s && not t) (IsWithin one two ⊎ IsApart one two)
cut_by_tests one two false t a b = inr (λ column e. pick column (has_column two column) refl (λ f. true≢false (sym (a.1 (column, e, f)))))
  where
    pick : (column : ℕ) (u : Bool) → has_column two column ≡ u → (u ≡ true → ⊥) → u ≡ false
    pick column true e n = absurd (n refl)
    pick column false e n = refl
cut_by_tests one two true true a b = inl (b.0 refl)
cut_by_tests one two true false a b = λ d. elim d [
  | inl w ↦ true≢false (sym (b.1 w))
  | inr n ↦ let h = a.0 refl in true≢false (sym h.2 ∙ n h.0 h.1)
]

-- the columns below the next one that a set does not have are in another set
pub others_next : (own old new : List ℕ) (column : ℕ) → ((x : ℕ) → x < column → has_column own x ≡ false → has_column old x ≡ true)
    → ((x : ℕ) → has_column old x ≡ true → has_column new x ≡ true) → (has_column own column ≡ false → has_column new column ≡ true)
    → (x : ℕ) → x < column + 1 → has_column own x ≡ false → has_column new x ≡ true
others_next own old new column rest kept here x l e = elim (cases_lt x column) [
  | inl low ↦ kept x (rest x low e)
  | inr high ↦
      let is : x ≡ column = omega arith in
      subst (λ (z : ℕ). has_column new z ≡ true) (sym is) (here (subst (λ (z : ℕ). has_column own z ≡ false) is e))
]
