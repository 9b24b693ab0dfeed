-- The planes of a matrix of zeros, and of a matrix after a change of one entry.
use Rattle.std.proofs.Common.{◌≡◌, ◌≢◌, ◌<◌, ◌≤◌, ◌+◌, ◌*◌, ◌/◌, ◌%◌, ◌^◌, ◌∙◌, ◌⊎◌, inl, inr, ℕ, zero, suc, Bool, true, false, cond, ℤ, pos, [], ◌∷◌, List, length, take, drop, get_or, set, replicate, refl, ap, ap₂, sym, subst, arith, zero-add}
use Rattle.std.specs.Int.{bit_at}
use Rattle.std.specs.Prelude.{count_by, count_ones}
use Rattle.std.specs.List.{flat_map, sum_by}
use Rattle.std.specs.Int.Count.{ones_step}
use Rattle.std.proofs.lemmas.Bool.{cases_eq, cases_lt}
use Rattle.std.proofs.lemmas.Bool.Decides.{nat_tests}
use Rattle.std.proofs.lemmas.List.{length-drop, length-set, length-replicate, get_or-replicate, get_or_past, get_or-set_same, get_or-set_other}
use Rattle.std.proofs.lemmas.Nat.{div-mul-add, mul-add-lt, ones_le_self}
use Rattle.std.proofs.lemmas.List.Sums.{sum_by-append, sum_by-take-drop}
use Rattle.std.proofs.lemmas.Nat.Bits.{bit_at-zero, bit_at-lt}
use Rattle.cmr_base.specs.declared.limits.TheConstants.{MAX_COLUMNS, MAX_ROWS}
use Rattle.cmr_base.specs.Matrix.{Matrix, height, entry, with_entry, IsMatrix, IsEntry, is_nonzero, nonzeros_of}
use Rattle.cmr_base.specs.Planes.{bits_of, has_bit, words_for, words_of}
use Rattle.cmr_base.proofs.Entries.{entry-with_entry_other_column, entry-with_entry_other_row, entry-with_entry_same, height-with_entry}
use Rattle.cmr_base.proofs.Lists.{get_or-replicated}
use Rattle.cmr_base.proofs.PlaneWords.{bit_lt, bit-word_of, word-rows, words_from_bits}
use Rattle.cmr_base.proofs.Views.{length-plane, small_value}

-- entries of rows of zeros
pub zero_entry : (rows columns row column : ℕ) → row < rows → get_or (get_or (replicate rows (replicate columns (pos 0))) row []) column (pos 0) ≡ pos 0
zero_entry rows columns row column h =
    ap (λ (r : List ℤ). get_or r column (pos 0)) (get_or-replicate rows row (replicate columns (pos 0)) [] h) ∙ get_or-replicated columns column (pos 0)

pub is_matrix-zero : (rows columns : ℕ) → rows ≤ MAX_ROWS → columns ≤ MAX_COLUMNS → IsMatrix (record { rows = replicate rows (replicate columns (pos 0)); width = columns })
is_matrix-zero rows columns few_rows few_columns = record {
  rectangular = λ row h. ap length (get_or-replicate rows row (replicate columns (pos 0)) [] (omega (arith, h, length-replicate rows (replicate columns (pos 0))))) ∙ length-replicate columns (pos 0);
  small = λ row column. subst IsEntry (sym (any_zero row column (cases_lt row rows))) (small_value false false);
  height_in = omega (arith, few_rows, length-replicate rows (replicate columns (pos 0)));
  width_in = few_columns;
}
  where
    any_zero : (row column : ℕ) → (row < rows) ⊎ (rows ≤ row) → get_or (get_or (replicate rows (replicate columns (pos 0))) row []) column (pos 0) ≡ pos 0
    any_zero row column (inl h) = zero_entry rows columns row column h
    any_zero row column (inr h) = ap (λ (r : List ℤ). get_or r column (pos 0)) (get_or_past (replicate rows (replicate columns (pos 0))) row [] (omega (arith, h, length-replicate rows (replicate columns (pos 0)))))

pub plane-zero : (test : ℤ → Bool) (rows columns words : ℕ) → test (pos 0) ≡ false → replicate (rows * words) 0 ≡ flat_map (words_of words test) (replicate rows (replicate columns (pos 0)))
plane-zero test rows columns words none =
    words_from_bits words test (replicate rows (replicate columns (pos 0))) (replicate (rows * words) 0) none
    (length-replicate (rows * words) 0 ∙ ap (λ n. n * words) (sym (length-replicate rows (replicate columns (pos 0)))))
    (λ k. omega (arith, get_or-replicated {A = ℕ} (rows * words) k 0))
    (λ row chunk place in_height in_words small.
    ap (λ word. bit_at word place) (get_or-replicated {A = ℕ} (rows * words) (row * words + chunk) 0) ∙ bit_at-zero place
    ∙ sym (ap (λ z. cond (test z) 1 0) (zero_entry rows columns row (64 * chunk + place) (omega (arith, in_height, length-replicate rows (replicate columns (pos 0))))) ∙ ap (λ (b : Bool). cond b 1 0) none))

-- counts of the bits of words
sum_by-cons : {X : Type 0} (f : X → ℕ) (x : X) (xs : List X) → sum_by f (x ∷ xs) ≡ f x + sum_by f xs
sum_by-cons f x xs = sum_by-append f (x ∷ []) xs ∙ ap (λ n. n + sum_by f xs) (zero-add (f x))

ones-bits_of : (test : ℤ → Bool) (zs : List ℤ) → count_ones (bits_of test zs) ≡ count_by test zs
ones-bits_of test [] = omega (arith, ones_le_self 0)
ones-bits_of test (z ∷ zs) =
    let bit : cond (test z) 1 0 < 2 = bit_lt (test z) in
    let half : bits_of test (z ∷ zs) / 2 ≡ bits_of test zs = omega arith in
    let low : bits_of test (z ∷ zs) % 2 ≡ cond (test z) 1 0 = omega arith in
    ones_step (bits_of test (z ∷ zs)) ∙ ap₂ (λ (a n : ℕ). a + count_ones n) low half ∙ ap (λ n. cond (test z) 1 0 + n) (ones-bits_of test zs)
    ∙ sym (sum_by-cons (λ x. cond (test x) 1 0) z zs)

ones-words_of : (count : ℕ) (test : ℤ → Bool) (zs : List ℤ) → length zs ≤ 64 * count → sum_by count_ones (words_of count test zs) ≡ count_by test zs
ones-words_of zero test [] h = refl
ones-words_of zero test (z ∷ zs) h = absurd (omega arith)
ones-words_of (suc count) test zs h =
    sum_by-cons count_ones (bits_of test (take 64 zs)) (words_of count test (drop 64 zs))
    ∙ ap₂ (λ (a b : ℕ). a + b) (ones-bits_of test (take 64 zs)) (ones-words_of count test (drop 64 zs) (omega (arith, length-drop 64 zs)))
    ∙ sum_by-take-drop (λ x. cond (test x) 1 0) zs 64

pub ones-rows : (words : ℕ) (rows : List (List ℤ)) → ((row : ℕ) → row < length rows → length (get_or rows row []) ≤ 64 * words)
    → sum_by count_ones (flat_map (words_of words is_nonzero) rows) ≡ nonzeros_of rows
ones-rows words [] short = refl
ones-rows words (row ∷ rows) short =
    sum_by-append count_ones (words_of words is_nonzero row) (flat_map (words_of words is_nonzero) rows)
    ∙ ap₂ (λ (a b : ℕ). a + b) (ones-words_of words is_nonzero row (short 0 (omega arith))) (ones-rows words rows (λ r h. short (suc r) (omega arith)))

module _ (m : Matrix) (test : ℤ → Bool) (plane : List ℕ) (row column : ℕ) (value : ℤ) (word : ℕ) (is : IsMatrix m) (row_in : row < height m) (column_in : column < m.width) (none : test (pos 0) ≡ false)
    (plane_is : plane ≡ flat_map (words_of (words_for m.width) test) m.rows) (here : has_bit word (column % 64) ≡ test value)
    (others : (k : ℕ) → k < 64 → k ≢ column % 64 → bit_at word k ≡ bit_at (get_or plane (row * words_for m.width + column / 64) 0) k)
    (fits : word < 2 ^ 64) (are_words : (k : ℕ) → get_or plane k 0 < 2 ^ 64) where
  abbrev words : ℕ
  words = words_for m.width

  abbrev place : ℕ
  place = row * words_for m.width + column / 64

  abbrev after : List ℕ
  after = set plane (row * words_for m.width + column / 64) word

  chunk_in : column / 64 < words_for m.width
  chunk_in = omega arith

  inside : place < length plane
  inside = omega (arith, length-plane m test plane plane_is, mul-add-lt row (words_for m.width) (column / 64) (height m) row_in chunk_in)

  old_bit : (r chunk k : ℕ) → r < height m → chunk < words → k < 64 → bit_at (get_or plane (r * words + chunk) 0) k ≡ cond (test (entry m r (64 * chunk + k))) 1 0
  old_bit r chunk k in_height in_words small =
      ap (λ (ws : List ℕ). bit_at (get_or ws (r * words + chunk) 0) k) plane_is
      ∙ ap (λ n. bit_at n k) (word-rows words test m.rows r chunk in_height in_words)
      ∙ bit-word_of test (get_or m.rows r []) chunk k none small

  kept : (r chunk k : ℕ) → r < height m → chunk < words → k < 64 → r * words + chunk ≢ place → entry (with_entry m row column value) r (64 * chunk + k) ≡ entry m r (64 * chunk + k)
      → bit_at (get_or after (r * words + chunk) 0) k ≡ cond (test (entry (with_entry m row column value) r (64 * chunk + k))) 1 0
  kept r chunk k in_height in_words small other same =
      ap (λ n. bit_at n k) (get_or-set_other plane place (r * words + chunk) word 0 other) ∙ old_bit r chunk k in_height in_words small
      ∙ ap (λ z. cond (test z) 1 0) (sym same)

  bit_of : (b : Bool) (n k : ℕ) → has_bit n k ≡ b → bit_at n k ≡ cond b 1 0
  bit_of true n k e = grind (arith, nat_tests)
  bit_of false n k e = let l = bit_at-lt n k in grind (arith, nat_tests)

  in_word : (k : ℕ) → k < 64 → (k ≡ column % 64) ⊎ (k ≢ column % 64) → bit_at word k ≡ cond (test (entry (with_entry m row column value) row (64 * (column / 64) + k))) 1 0
  in_word k small (inl e) =
      let at : 64 * (column / 64) + k ≡ column = omega arith in
      ap (λ n. bit_at word n) e ∙ bit_of (test value) word (column % 64) here
      ∙ ap (λ z. cond (test z) 1 0) (sym (entry-with_entry_same m row column value row_in is column_in) ∙ ap (λ n. entry (with_entry m row column value) row n) (sym at))
  in_word k small (inr other) =
      others k small other ∙ old_bit row (column / 64) k row_in chunk_in small
      ∙ ap (λ z. cond (test z) 1 0) (sym (entry-with_entry_other_column m row column value row_in (64 * (column / 64) + k) (λ e. other (omega arith))))

  in_row : (chunk k : ℕ) → chunk < words → k < 64 → (chunk ≡ column / 64) ⊎ (chunk ≢ column / 64)
      → bit_at (get_or after (row * words + chunk) 0) k ≡ cond (test (entry (with_entry m row column value) row (64 * chunk + k))) 1 0
  in_row chunk k in_words small (inl e) =
      subst (λ b. bit_at (get_or after (row * words + b) 0) k ≡ cond (test (entry (with_entry m row column value) row (64 * b + k))) 1 0) (sym e)
      (ap (λ n. bit_at n k) (get_or-set_same plane place word 0 inside) ∙ in_word k small (cases_eq k (column % 64)))
  in_row chunk k in_words small (inr other) =
      kept row chunk k row_in in_words small (λ e. other (omega arith))
      (entry-with_entry_other_column m row column value row_in (64 * chunk + k) (λ e. other (omega arith)))

  each : (r chunk k : ℕ) → r < height m → chunk < words → k < 64 → (r ≡ row) ⊎ (r ≢ row)
      → bit_at (get_or after (r * words + chunk) 0) k ≡ cond (test (entry (with_entry m row column value) r (64 * chunk + k))) 1 0
  each r chunk k in_height in_words small (inl e) =
      subst (λ n. bit_at (get_or after (n * words + chunk) 0) k ≡ cond (test (entry (with_entry m row column value) n (64 * chunk + k))) 1 0) (sym e)
      (in_row chunk k in_words small (cases_eq chunk (column / 64)))
  each r chunk k in_height in_words small (inr other) =
      kept r chunk k in_height in_words small
      (λ e. other (sym (div-mul-add r words chunk in_words) ∙ ap (λ n. n / words) e ∙ div-mul-add row words (column / 64) chunk_in))
      (entry-with_entry_other_row m row column value r (64 * chunk + k) other)

  all_words : (k : ℕ) → (k ≡ place) ⊎ (k ≢ place) → get_or after k 0 < 2 ^ 64
  all_words k (inl e) = subst (λ n. get_or after n 0 < 2 ^ 64) (sym e) (subst (λ n. n < 2 ^ 64) (sym (get_or-set_same plane place word 0 inside)) fits)
  all_words k (inr other) = subst (λ n. n < 2 ^ 64) (sym (get_or-set_other plane place k word 0 other)) (are_words k)

  -- a plane after a change of one word
  pub plane-with_entry : set plane (row * words_for m.width + column / 64) word ≡ flat_map (words_of (words_for m.width) test) (with_entry m row column value).rows
  plane-with_entry =
      words_from_bits words test (with_entry m row column value).rows after none
      (length-set plane place word ∙ length-plane m test plane plane_is ∙ ap (λ n. n * words) (sym (height-with_entry m row column value)))
      (λ k. all_words k (cases_eq k place))
      (λ r chunk k in_height in_words small. each r chunk k (omega (arith, in_height, height-with_entry m row column value)) in_words small (cases_eq r row))
