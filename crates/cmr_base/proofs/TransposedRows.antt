-- Bits of rows that are set in columns of another plane, and the plane of a transposed matrix.
use Rattle.std.proofs.Common.{◌≡◌, ◌≢◌, ◌<◌, ◌≤◌, ◌+◌, ◌-◌, ◌*◌, ◌/◌, ◌%◌, ◌^◌, ◌||◌, ◌∙◌, ◌⊎◌, inl, inr, ℕ, true, false, eqb, ℤ, pos, Bool, [], List, length, take, drop, get_or, set, min, refl, ap, ap₂, sym, subst, arith}
use Rattle.std.specs.Int.{bit_at}
use Rattle.std.specs.Int.Bits.{bit_and, and_lt}
use Rattle.std.specs.List.{flat_map}
use Rattle.std.proofs.Math.Nat.{mul-le-mul_right}
use Rattle.std.proofs.lemmas.Bool.{cases_eq, cases_lt, true≢false}
use Rattle.std.proofs.lemmas.List.{get_or-drop, get_or-set_other, get_or-set_same, get_or-take, get_or_past, length-drop, length-set, length-take-le}
use Rattle.std.proofs.lemmas.Nat.{and_le_l, same_from_place}
use Rattle.std.proofs.lemmas.Nat.Bits.{bit_at_and, same_from_bits_below}
use Rattle.cmr_base.specs.ColumnSets.{has_column}
use Rattle.cmr_base.specs.Matrix.{Matrix, height, row_of, entry, transposed, IsMatrix}
use Rattle.cmr_base.specs.MatrixLayout.{is_in}
use Rattle.cmr_base.specs.Planes.{has_bit, words_for, words_of}
use Rattle.cmr_base.specs.Runs.{AreWords}
use Rattle.cmr_base.specs.TransposedPlanes.{HasNoBitPast, IsPlaneTransposed, IsRowTransposed, IsWordTransposed}
use Rattle.cmr_base.proofs.Booleans.{or_false, or_left, or_right}
use Rattle.cmr_base.proofs.ColumnWords.{chunk_of, column_at, none_past, place_of}
use Rattle.cmr_base.proofs.Parts.{entry-transposed, height-transposed}
use Rattle.cmr_base.proofs.PlaneWords.{in_rows, words_from_bits}
use Rattle.cmr_base.proofs.RunRows.{bit_from}
use Rattle.cmr_base.proofs.WordBits.{has_bit-zero}

-- ---- a bit

module _ (to : ℕ) (made : List ℕ) (column row word : ℕ) (inside : column * to + row / 64 < length made) where
  abbrev at : ℕ
  at = column * to + row / 64

  module _ (here : has_bit word (row % 64) ≡ true) where
    set_here : is_in to (set made (column * to + row / 64) word) column row ≡ true
    set_here = ap (λ w. has_bit w (row % 64)) (get_or-set_same made at word 0 inside) ∙ here

  module _ (low : row < 64 * to) (others : (k : ℕ) → k < 64 → k ≢ row % 64 → bit_at word k ≡ bit_at (get_or made (column * to + row / 64) 0) k) where
    set_apart : (c r : ℕ) → r < 64 * to → (c ≢ column) ⊎ (r ≢ row) → is_in to (set made (column * to + row / 64) word) c r ≡ is_in to made c r
    set_apart c r l d = elim (cases_eq (c * to + r / 64) at) [
      | inl e ↦ in_word e (same_from_place c (r / 64) column (row / 64) to (omega arith) (omega arith) e)
      | inr apart ↦ ap (λ w. has_bit w (r % 64)) (get_or-set_other made at (c * to + r / 64) word 0 apart)
    ]
      where
        apart : (c ≢ column) ⊎ (r ≢ row) → c ≡ column → r / 64 ≡ row / 64 → r % 64 ≢ row % 64
        apart (inl n) e f g = n e
        apart (inr n) e f g = n (omega (arith, f, g))

        in_word : c * to + r / 64 ≡ column * to + row / 64 → (c ≡ column) × (r / 64 ≡ row / 64) → is_in to (set made (column * to + row / 64) word) c r ≡ is_in to made c r
        in_word e (f, g) =
            ap (λ j. has_bit (get_or (set made at word) j 0) (r % 64)) e ∙ ap (λ w. has_bit w (r % 64)) (get_or-set_same made at word 0 inside)
            ∙ ap (λ b. eqb b 1) (others (r % 64) (omega arith) (apart d f g))
            ∙ ap (λ j. has_bit (get_or made j 0) (r % 64)) (sym e)

  set_words : word < 2 ^ 64 → AreWords made → AreWords (set made (column * to + row / 64) word)
  set_words fits are k = elim (cases_eq k at) [
    | inl e ↦ subst (λ j. get_or (set made at word) j 0 < 2 ^ 64) (sym e) (subst (λ w. w < 2 ^ 64) (sym (get_or-set_same made at word 0 inside)) fits)
    | inr d ↦ subst (λ w. w < 2 ^ 64) (sym (get_or-set_other made at k word 0 d)) (are k)
  ]

less_of_two : (a b : ℕ) → (b ≡ 0) ⊎ (b ≡ a) → min a b ≡ b
less_of_two a b (inl e) = omega arith
less_of_two a b (inr e) = omega arith

-- a word without one of its bits is less
pub less_without : (word next place : ℕ) → word < 2 ^ 64 → next < 2 ^ 64 → has_bit word place ≡ true → has_bit next place ≡ false
    → ((k : ℕ) → k < 64 → k ≢ place → bit_at next k ≡ bit_at word k) → next < word
less_without word next place fits less there gone same = elim (cases_eq next word) [
  | inl e ↦ absurd (true≢false (sym there ∙ ap (λ w. has_bit w place) (sym e) ∙ gone))
  | inr d ↦ omega (arith, and_le_l word next, common, d)
]
  where
    bit : (k : ℕ) → k < 64 → bit_at (bit_and word next) k ≡ bit_at next k
    bit k l = bit_at_and word next k ∙ elim (cases_eq k place) [
      | inl e ↦ less_of_two (bit_at word k) (bit_at next k) (inl (ap (bit_at next) e ∙ bit_from next place false gone))
      | inr d ↦ less_of_two (bit_at word k) (bit_at next k) (inr (same k l d))
    ]

    common : bit_and word next ≡ next
    common = same_from_bits_below 64 (bit_and word next) next (and_lt 64 word next fits less) less bit

-- ---- a word

-- the bits of a word that are not in the rest are in a row's column
pub record AreBitsTransposed (to row first word rest : ℕ) (before after : List ℕ) : Type 0 where
  pub fits : rest < 2 ^ 64
  pub long : length after ≡ length before
  pub are_words : AreWords before → AreWords after
  pub bits : (k : ℕ) → k < 64 → (is_in to after (first + k) row || has_bit rest k) ≡ has_bit word k
  pub others : (column r : ℕ) → r < 64 * to → (r ≢ row) ⊎ ((column < first) ⊎ (first + 64 ≤ column)) → is_in to after column r ≡ is_in to before column r

module _ (to row first word : ℕ) (before : List ℕ) where
  pub no_bit_transposed : word < 2 ^ 64 → ((k : ℕ) → k < 64 → is_in to before (first + k) row ≡ false) → AreBitsTransposed to row first word word before before
  no_bit_transposed fits empty = record {
    fits = fits;
    long = refl;
    are_words = λ are. are;
    bits = λ k l. ap (λ b. b || has_bit word k) (empty k l);
    others = λ column r l h. refl;
  }

  pub all_bits_transposed : (rest : ℕ) (after : List ℕ) → AreBitsTransposed to row first word rest before after → rest ≡ 0 → IsWordTransposed to row first word before after
  all_bits_transposed rest after so none = record {
    long = so.long;
    are_words = so.are_words;
    bits = λ k l. sym (or_false (is_in to after (first + k) row)) ∙ ap (λ b. is_in to after (first + k) row || b) (sym (ap (λ w. has_bit w k) none ∙ has_bit-zero k)) ∙ so.bits k l;
    others = so.others;
  }

  module _ (rest place : ℕ) (now : List ℕ) (so : AreBitsTransposed to row first word rest before now) (small : place < 64) (there : has_bit rest place ≡ true) where
    -- a bit of the rest is a bit of the word
    pub in_word : has_bit word place ≡ true
    in_word = sym (so.bits place small) ∙ or_right (is_in to now (first + place) row) (has_bit rest place) there

    module _ (next value : ℕ) (low : row < 64 * to) (inside : (first + place) * to + row / 64 < length now) (here : has_bit value (row % 64) ≡ true)
        (others : (k : ℕ) → k < 64 → k ≢ row % 64 → bit_at value k ≡ bit_at (get_or now ((first + place) * to + row / 64) 0) k) (value_fits : value < 2 ^ 64) (next_fits : next < 2 ^ 64)
        (kept : (k : ℕ) → k < 64 → k ≢ place → bit_at next k ≡ bit_at rest k) where
      abbrev after : List ℕ
      after = set now ((first + place) * to + row / 64) value

      pub one_bit_transposed : AreBitsTransposed to row first word next before (set now ((first + place) * to + row / 64) value)
      one_bit_transposed = record {
        fits = next_fits;
        long = length-set now ((first + place) * to + row / 64) value ∙ so.long;
        are_words = λ are. set_words to now (first + place) row value inside value_fits (so.are_words are);
        bits = λ k l. elim (cases_eq k place) [
          | inl e ↦
              subst (λ j. (is_in to after (first + j) row || has_bit next j) ≡ has_bit word j) (sym e)
              (or_left (is_in to after (first + place) row) (has_bit next place) (set_here to now (first + place) row value inside here) ∙ sym in_word)
          | inr d ↦
              ap₂ (λ a b. a || b) (set_apart to now (first + place) row value inside low others (first + k) row low (inl (λ e. d (omega arith)))) (ap (λ b. eqb b 1) (kept k l d))
              ∙ so.bits k l
        ];
        others = λ column r l h. set_apart to now (first + place) row value inside low others column r l (apart column r h) ∙ so.others column r l h;
      }
        where
          apart : (column r : ℕ) → (r ≢ row) ⊎ ((column < first) ⊎ (first + 64 ≤ column)) → (column ≢ first + place) ⊎ (r ≢ row)
          apart column r (inl d) = inr d
          apart column r (inr (inl l)) = inl (λ e. omega arith)
          apart column r (inr (inr l)) = inl (λ e. omega arith)

-- ---- a row

module _ (to row : ℕ) (words before : List ℕ) where
  pub no_word_transposed : IsRowTransposed to row words 0 before before
  no_word_transposed = record {
    long = refl;
    are_words = λ are. are;
    bits = λ column l. absurd (omega arith);
    others = λ column r l h. refl;
  }

  pub word_transposed : (chunk : ℕ) (now after : List ℕ) → row < 64 * to → IsRowTransposed to row words (64 * chunk) before now
      → IsWordTransposed to row (64 * chunk) (get_or words chunk 0) now after → IsRowTransposed to row words (64 * (chunk + 1)) before after
  word_transposed chunk now after low so here = record {
    long = here.long ∙ so.long;
    are_words = λ are. here.are_words (so.are_words are);
    bits = λ column l. elim (cases_lt column (64 * chunk)) [
      | inl earlier ↦ here.others column row low (inr (inl earlier)) ∙ so.bits column earlier
      | inr later ↦
          let at : 64 * chunk + (column - 64 * chunk) ≡ column = omega arith in
          let small : column - 64 * chunk < 64 = omega arith in
          subst (λ c. is_in to after c row ≡ has_column words c) at (here.bits (column - 64 * chunk) small ∙ sym (column_at words chunk (column - 64 * chunk) small))
    ];
    others = λ column r l h. here.others column r l (past column r h) ∙ so.others column r l (later column r h);
  }
    where
      past : (column r : ℕ) → (r ≢ row) ⊎ (64 * (chunk + 1) ≤ column) → (r ≢ row) ⊎ ((column < 64 * chunk) ⊎ (64 * chunk + 64 ≤ column))
      past column r (inl d) = inl d
      past column r (inr l) = inr (inr (omega arith))

      later : (column r : ℕ) → (r ≢ row) ⊎ (64 * (chunk + 1) ≤ column) → (r ≢ row) ⊎ (64 * chunk ≤ column)
      later column r (inl d) = inl d
      later column r (inr l) = inr (omega arith)

-- ---- a plane

module _ (width : ℕ) (plane : List ℕ) where
  pub row_long : (rows row : ℕ) → row < rows → length plane ≡ rows * words_for width → length (take (words_for width) (drop (row * words_for width) plane)) ≡ words_for width
  row_long rows row l whole =
      let all : (row + 1) * words_for width ≤ rows * words_for width = mul-le-mul_right (words_for width) (omega arith) in
      let left = length-drop (row * words_for width) plane in
      length-take-le (words_for width) (drop (row * words_for width) plane) (omega (arith, all, left, whole))

  -- a bit of a row's words
  taken : (row column : ℕ) → column / 64 < words_for width → has_column (take (words_for width) (drop (row * words_for width) plane)) column ≡ is_in (words_for width) plane row column
  taken row column l =
      ap (λ w. has_bit w (column % 64))
      (get_or-take (words_for width) (drop (row * words_for width) plane) (column / 64) 0 l ∙ get_or-drop (row * words_for width) plane (column / 64) 0)

  module _ (to : ℕ) where
    pub row_transposed : (count : ℕ) (made after words : List ℕ) → words ≡ take (words_for width) (drop (count * words_for width) plane) → length words ≡ words_for width → count < 64 * to
        → IsPlaneTransposed width to plane count made → IsRowTransposed to count words (64 * length words) made after → IsPlaneTransposed width to plane (count + 1) after
    row_transposed count made after words is long low so here = record {
      long = here.long ∙ so.long;
      are_words = here.are_words so.are_words;
      bits = λ column row l h. elim (cases_eq row count) [
        | inl e ↦
            subst (λ r. is_in to after column r ≡ is_in (words_for width) plane r column) (sym e)
            (here.bits column (omega (arith, l, long)) ∙ ap (λ ws. has_column ws column) is ∙ taken count column (omega (arith, l)))
        | inr d ↦ here.others column row (omega (arith, h, low)) (inl d) ∙ so.bits column row l (omega (arith, h, d))
      ];
      empty = λ column row h l. here.others column row l (inl (λ e. omega arith)) ∙ so.empty column row (omega arith) l;
    }

    -- if a row has a bit, the plane has room for it
    pub room : (rows row column : ℕ) (made words : List ℕ) → row < rows → HasNoBitPast plane rows width
        → words ≡ take (words_for width) (drop (row * words_for width) plane) → length words ≡ words_for width
        → length made ≡ width * to → has_column words column ≡ true → column * to + to ≤ length made
    room rows row column made words l ends is long whole e =
        let all : (column + 1) * to ≤ width * to = mul-le-mul_right to (omega (arith, inside (cases_lt column (64 * words_for width)) (cases_lt column width))) in
        omega (arith, all, whole)
      where
        inside : (column < 64 * words_for width) ⊎ (64 * words_for width ≤ column) → (column < width) ⊎ (width ≤ column) → column < width
        inside h (inl k) = k
        inside (inr h) (inr k) = absurd (true≢false (sym e ∙ none_past words column (omega (arith, h, long))))
        inside (inl h) (inr k) = absurd (true≢false (sym e ∙ ap (λ ws. has_column ws column) is ∙ taken row column (omega (arith, h)) ∙ ends row column l k h))

-- ---- the words of a transposed matrix

module _ (m : Matrix) (is : IsMatrix m) (test : ℤ → Bool) (none : test (pos 0) ≡ false) (plane : List ℕ) (plane_is : plane ≡ flat_map (words_of (words_for m.width) test) m.rows) where
  bit_of : (row column : ℕ) → row < height m → column / 64 < words_for m.width → is_in (words_for m.width) plane row column ≡ test (entry m row column)
  bit_of row column l h = ap (λ (ws : List ℕ). is_in (words_for m.width) ws row column) plane_is ∙ in_rows (words_for m.width) test m.rows row column none l h

  pub no_bit_past : HasNoBitPast plane (height m) m.width
  no_bit_past row column l past h =
      bit_of row column l (omega (arith, h)) ∙ ap test (get_or_past (row_of m row) column (pos 0) (let long = is.rectangular row l in omega (arith, long, past))) ∙ none

  module _ (made : List ℕ) (all : IsPlaneTransposed m.width (words_for (height m)) plane (height m) made) where
    abbrev to : ℕ
    to = words_for (height m)

    in_made : (column row : ℕ) → column < m.width → row < 64 * words_for (height m) → is_in (words_for (height m)) made column row ≡ test (entry (transposed m) column row)
    in_made column row l h = elim (cases_lt row (height m)) [
      | inl inside ↦ all.bits column row l inside ∙ bit_of row column inside (omega (arith, l)) ∙ ap test (sym (entry-transposed m row column is))
      | inr past ↦ all.empty column row past h ∙ sym (ap test (entry-transposed m row column is ∙ ap (λ (r : List ℤ). get_or r column (pos 0)) (get_or_past m.rows row [] past)) ∙ none)
    ]

    pub transposed_words : made ≡ flat_map (words_of (words_for (height m)) test) (transposed m).rows
    transposed_words =
        words_from_bits (words_for (height m)) test (transposed m).rows made none (all.long ∙ ap (λ n. n * words_for (height m)) (sym (height-transposed m))) all.are_words
        (λ column chunk place l b small.
        bit_from (get_or made (column * to + chunk) 0) place (test (entry (transposed m) column (64 * chunk + place)))
        (ap₂ (λ c p. has_bit (get_or made (column * to + c) 0) p) (sym (chunk_of chunk place small)) (sym (place_of chunk place small))
        ∙ in_made column (64 * chunk + place) (omega (arith, l, height-transposed m)) (omega (arith, b, small))))
