-- Rows of entries as bits of words.
use Rattle.std.proofs.Common.{◌≡◌, ◌≢◌, ◌<◌, ◌≤◌, ◌+◌, ◌-◌, ◌*◌, ◌/◌, ◌%◌, ◌^◌, ◌∙◌, ◌++◌, ℕ, zero, suc, Bool, true, false, eqb, cond, ℤ, pos, negsuc, List, [], ◌∷◌, map, length, take, drop, get_or, refl, ap, ap₂, sym, subst, ◌⊎◌, inl, inr, arith, min, length-append}
use Rattle.std.proofs.lemmas.Bool.{cases_lt, cases_eq}
use Rattle.std.specs.Prelude.{bit_or}
use Rattle.std.specs.Int.{bit_at}
use Rattle.std.specs.List.{flat_map}
use Rattle.std.proofs.lemmas.List.{append-nil, drop-drop, length-drop, length-take, length-take-le, take_all, take_more, get_or-take, get_or-drop, ext_get_or}
use Rattle.std.proofs.lemmas.List.Concat.{flat_map-append}
use Rattle.std.proofs.lemmas.List.FromFn.{get_or-map-range_with_len, length-map-range_with_len}
use Rattle.std.proofs.lemmas.Int.{ints}
use Rattle.std.proofs.lemmas.Grind.{same_number_lists}
use Rattle.std.proofs.lemmas.Nat.{one_shl, or_comm, or_shifted}
use Rattle.std.proofs.lemmas.Nat.Bits.{bit_at-zero, bit_at_lowest, bit_at-suc, same_from_bits_below}
use Rattle.std.proofs.Math.Pow.{pow_mono}
use Rattle.std.proofs.Math.Nat.{pow-suc, suc-mul, zero-mul, div-add-mod, mod-lt, div-lt_iff_lt-mul, mul_comm}
use Rattle.std.proofs.Math.Seq.{drop-append_seam, take-append_seam}
use Rattle.cmr_base.specs.LineSets.{first_lines}
use Rattle.cmr_base.specs.Matrix.{Matrix, height, entry, IsEntry, IsMatrix, is_nonzero}
use Rattle.cmr_base.specs.MatrixLayout.{plane_entry, is_in, rows_in, value_of}
use Rattle.cmr_base.specs.Planes.{bits_of, has_bit, is_minus, word_of, words_for, words_of}

pub bit_lt : (b : Bool) → cond b 1 0 < 2
bit_lt true = omega arith
bit_lt false = omega arith

pub bit_at-bits_of : (test : ℤ → Bool) (zs : List ℤ) (place : ℕ) → test (pos 0) ≡ false → bit_at (bits_of test zs) place ≡ cond (test (get_or zs place (pos 0))) 1 0
bit_at-bits_of test [] place none = bit_at-zero place ∙ ap (λ (b : Bool). cond b 1 0) (sym none)
bit_at-bits_of test (z ∷ zs) zero none = bit_at_lowest (bits_of test (z ∷ zs)) ∙ omega (arith, bit_lt (test z))
bit_at-bits_of test (z ∷ zs) (suc place) none =
    let half : bits_of test (z ∷ zs) / 2 ≡ bits_of test zs = omega (arith, bit_lt (test z)) in
    bit_at-suc (bits_of test (z ∷ zs)) place ∙ ap (λ n. bit_at n place) half ∙ bit_at-bits_of test zs place none

pub bits_of-lt : (test : ℤ → Bool) (zs : List ℤ) → bits_of test zs < 2 ^ length zs
bits_of-lt test [] = omega arith
bits_of-lt test (z ∷ zs) = omega (arith, bit_lt (test z), bits_of-lt test zs, pow-suc 2 (length zs))

bits_of-push : (test : ℤ → Bool) (zs : List ℤ) (z : ℤ) → bits_of test (zs ++ z ∷ []) ≡ bits_of test zs + cond (test z) 1 0 * 2 ^ length zs
bits_of-push test [] z = omega arith
bits_of-push test (x ∷ zs) z =
    let twice = ap (λ n. cond (test z) 1 0 * n) (pow-suc 2 (length zs)) in
    omega (arith, bits_of-push test zs z, twice)

bits_more : (test : ℤ → Bool) (zs : List ℤ) (place : ℕ) → place < length zs → bits_of test (take (place + 1) zs) ≡ bits_of test (take place zs) + cond (test (get_or zs place (pos 0))) 1 0 * 2 ^ place
bits_more test zs place h =
    let long : length (take place zs) ≡ place = length-take-le place zs (omega arith) in
    ap (bits_of test) (take_more zs place (pos 0) h) ∙ bits_of-push test (take place zs) (get_or zs place (pos 0))
    ∙ ap (λ n. bits_of test (take place zs) + cond (test (get_or zs place (pos 0))) 1 0 * 2 ^ n) long

bits_lt : (test : ℤ → Bool) (zs : List ℤ) (place : ℕ) → place < length zs → bits_of test (take place zs) < 2 ^ place
bits_lt test zs place h = subst (λ n. bits_of test (take place zs) < 2 ^ n) (length-take-le place zs (omega arith)) (bits_of-lt test (take place zs))

-- one more entry
pub bit_added : (test : ℤ → Bool) (zs : List ℤ) (place word bit : ℕ) → place < length zs → place < 64 → word ≡ bits_of test (take place zs) → bit ≡ cond (test (get_or zs place (pos 0))) 1 0
    → bit_or word (bit * 2 ^ place % 2 ^ 64) ≡ bits_of test (take (place + 1) zs)
bit_added test zs place word bit h small so_far is =
    ap₂ bit_or so_far (ap (λ n. n * 2 ^ place % 2 ^ 64) is ∙ whole (test (get_or zs place (pos 0))))
    ∙ or_comm (bits_of test (take place zs)) (cond (test (get_or zs place (pos 0))) 1 0 * 2 ^ place)
    ∙ or_shifted (cond (test (get_or zs place (pos 0))) 1 0) place (bits_of test (take place zs)) (bits_lt test zs place h)
    ∙ omega (arith, bits_more test zs place h)
  where
    whole : (b : Bool) → cond b 1 0 * 2 ^ place % 2 ^ 64 ≡ cond b 1 0 * 2 ^ place
    whole true = one_shl place 64 small ∙ omega arith
    whole false = ap (λ n. n % 2 ^ 64) (zero-mul (2 ^ place)) ∙ sym (zero-mul (2 ^ place))

-- the words of a row
pub length-words_of : (count : ℕ) (test : ℤ → Bool) (zs : List ℤ) → length (words_of count test zs) ≡ count
length-words_of zero test zs = refl
length-words_of (suc count) test zs = ap suc (length-words_of count test (drop 64 zs))

pub words_of_more : (count word : ℕ) (test : ℤ → Bool) (zs : List ℤ) → word < count
    → words_of (count - word) test (drop (64 * word) zs) ≡ bits_of test (take 64 (drop (64 * word) zs)) ∷ words_of (count - (word + 1)) test (drop (64 * (word + 1)) zs)
words_of_more count word test zs h =
    let next : count - word ≡ suc (count - (word + 1)) = omega arith in
    let further : 64 * word + 64 ≡ 64 * (word + 1) = omega arith in
    ap (λ n. words_of n test (drop (64 * word) zs)) next
    ∙ ap (λ (rest : List ℤ). bits_of test (take 64 (drop (64 * word) zs)) ∷ words_of (count - (word + 1)) test rest) (drop-drop 64 (64 * word) zs ∙ ap (λ n. drop n zs) further)

-- rows that follow one another
pub length-rows : (f : List ℤ → List ℕ) (words : ℕ) (rows : List (List ℤ)) → ((row : List ℤ) → length (f row) ≡ words) → length (flat_map f rows) ≡ length rows * words
length-rows f words [] each = sym (zero-mul words)
length-rows f words (row ∷ rows) each = omega (arith, length-append (f row) (flat_map f rows), each row, length-rows f words rows each, suc-mul (length rows) words)

pub row_at : (f : List ℤ → List ℕ) (words : ℕ) (rows : List (List ℤ)) (r : ℕ) → ((row : List ℤ) → length (f row) ≡ words) → r < length rows
    → take words (drop (r * words) (flat_map f rows)) ≡ f (get_or rows r [])
row_at f words [] r each h = absurd (omega arith)
row_at f words (row ∷ rows) zero each h =
    ap (λ n. take words (drop n (f row ++ flat_map f rows))) (zero-mul words)
    ∙ subst (λ n. take n (f row ++ flat_map f rows) ≡ f row) (each row) (take-append_seam (f row) (flat_map f rows))
row_at f words (row ∷ rows) (suc r) each h =
    let further : suc r * words ≡ words + r * words = omega (arith, suc-mul r words) in
    ap (take words) (ap (λ n. drop n (f row ++ flat_map f rows)) further ∙ sym (drop-drop (r * words) words (f row ++ flat_map f rows)) ∙ ap (drop (r * words)) (subst (λ n. drop n (f row ++ flat_map f rows) ≡ flat_map f rows) (each row) (drop-append_seam (f row) (flat_map f rows))))
    ∙ row_at f words rows r each (omega arith)

pub more_rows : (f : List ℤ → List ℕ) (rows : List (List ℤ)) (row : ℕ) → row < length rows → flat_map f (take (row + 1) rows) ≡ flat_map f (take row rows) ++ f (get_or rows row [])
more_rows f rows row h =
    ap (flat_map f) (take_more rows row [] h) ∙ flat_map-append f (take row rows) (get_or rows row [] ∷ []) ∙ ap (λ last. flat_map f (take row rows) ++ last) (append-nil (f (get_or rows row [])))

-- a piece of a row that ends at the row's end at the latest
pub take_capped : (zs : List ℤ) (from to : ℕ) → to ≡ min (length zs) (from + 64) → from ≤ length zs → take (to - from) (drop from zs) ≡ take 64 (drop from zs)
take_capped zs from to e h = elim (cases_lt (length zs) (from + 64)) [
  | inl short ↦
      let left = length-drop from zs in
      take_all (to - from) (drop from zs) (omega (arith, left)) ∙ sym (take_all 64 (drop from zs) (omega (arith, left)))
  | inr long ↦ let whole : to - from ≡ 64 = omega arith in ap (λ n. take n (drop from zs)) whole
]

-- one word of a row
pub word-words_of : (count : ℕ) (test : ℤ → Bool) (zs : List ℤ) (chunk : ℕ) → chunk < count → get_or (words_of count test zs) chunk 0 ≡ word_of test zs chunk
word-words_of zero test zs chunk h = absurd (omega arith)
word-words_of (suc count) test zs zero h = refl
word-words_of (suc count) test zs (suc chunk) h =
    let further : 64 + 64 * chunk ≡ 64 * suc chunk = omega arith in
    word-words_of count test (drop 64 zs) chunk (omega arith)
    ∙ ap (λ (rest : List ℤ). bits_of test (take 64 rest)) (drop-drop (64 * chunk) 64 zs ∙ ap (λ n. drop n zs) further)

pub word-rows : (words : ℕ) (test : ℤ → Bool) (rows : List (List ℤ)) (row chunk : ℕ) → row < length rows → chunk < words
    → get_or (flat_map (words_of words test) rows) (row * words + chunk) 0 ≡ word_of test (get_or rows row []) chunk
word-rows words test rows row chunk in_rows in_words =
    sym (get_or-drop (row * words) (flat_map (words_of words test) rows) chunk 0)
    ∙ sym (get_or-take words (drop (row * words) (flat_map (words_of words test) rows)) chunk 0 in_words)
    ∙ ap (λ (ws : List ℕ). get_or ws chunk 0) (row_at (words_of words test) words rows row (length-words_of words test) in_rows)
    ∙ word-words_of words test (get_or rows row []) chunk in_words

-- one bit of a word
pub bit-word_of : (test : ℤ → Bool) (zs : List ℤ) (chunk place : ℕ) → test (pos 0) ≡ false → place < 64
    → bit_at (word_of test zs chunk) place ≡ cond (test (get_or zs (64 * chunk + place) (pos 0))) 1 0
bit-word_of test zs chunk place none small =
    bit_at-bits_of test (take 64 (drop (64 * chunk) zs)) place none
    ∙ ap (λ z. cond (test z) 1 0) (get_or-take 64 (drop (64 * chunk) zs) place (pos 0) small ∙ get_or-drop (64 * chunk) zs place (pos 0))

pub word_of-lt : (test : ℤ → Bool) (zs : List ℤ) (chunk : ℕ) → word_of test zs chunk < 2 ^ 64
word_of-lt test zs chunk =
    let part = take 64 (drop (64 * chunk) zs) in
    let short : length part ≤ 64 = omega (arith, length-take 64 (drop (64 * chunk) zs)) in
    omega (arith, bits_of-lt test part, pow_mono short)

fit_both : (xs ys : List ℕ) → ((k : ℕ) → get_or xs k 0 < 2 ^ 64) → ((k : ℕ) → get_or ys k 0 < 2 ^ 64) → (k : ℕ) → get_or (xs ++ ys) k 0 < 2 ^ 64
fit_both [] ys left right k = right k
fit_both (x ∷ xs) ys left right zero = left 0
fit_both (x ∷ xs) ys left right (suc k) = fit_both xs ys (λ j. left (suc j)) right k

words_fit : (count : ℕ) (test : ℤ → Bool) (zs : List ℤ) (k : ℕ) → get_or (words_of count test zs) k 0 < 2 ^ 64
words_fit zero test zs k = omega arith
words_fit (suc count) test zs zero = word_of-lt test zs 0
words_fit (suc count) test zs (suc k) = words_fit count test (drop 64 zs) k

-- words have 64 bits
pub rows_fit : (words : ℕ) (test : ℤ → Bool) (rows : List (List ℤ)) (k : ℕ) → get_or (flat_map (words_of words test) rows) k 0 < 2 ^ 64
rows_fit words test [] k = omega arith
rows_fit words test (row ∷ rows) k = fit_both (words_of words test row) (flat_map (words_of words test) rows) (words_fit words test row) (rows_fit words test rows) k

pub one_bit : (b : Bool) → eqb (cond b 1 0) 1 ≡ b
one_bit true = refl
one_bit false = refl

pub in_rows : (words : ℕ) (test : ℤ → Bool) (rows : List (List ℤ)) (row column : ℕ) → test (pos 0) ≡ false → row < length rows → column / 64 < words
    → is_in words (flat_map (words_of words test) rows) row column ≡ test (get_or (get_or rows row []) column (pos 0))
in_rows words test rows row column none in_height in_words =
    let same : 64 * (column / 64) + column % 64 ≡ column = omega arith in
    ap (λ word. has_bit word (column % 64)) (word-rows words test rows row (column / 64) in_height in_words)
    ∙ ap (λ bit. eqb bit 1) (bit-word_of test (get_or rows row []) (column / 64) (column % 64) none (omega arith))
    ∙ one_bit (test (get_or (get_or rows row []) (64 * (column / 64) + column % 64) (pos 0)))
    ∙ ap (λ c. test (get_or (get_or rows row []) c (pos 0))) same

-- words that have the bits of a list of rows are the words of these rows
pub words_from_each : (words : ℕ) (test : ℤ → Bool) (rows : List (List ℤ)) (flat : List ℕ) → length flat ≡ length rows * words
    → ((row chunk : ℕ) → row < length rows → chunk < words → get_or flat (row * words + chunk) 0 ≡ word_of test (get_or rows row []) chunk)
    → flat ≡ flat_map (words_of words test) rows
words_from_each words test rows flat long each =
    same_number_lists flat (flat_map (words_of words test) rows) (long ∙ sym (length-rows (words_of words test) words rows (length-words_of words test))) (λ k h. at k h (cases_eq words 0))
  where
    at : (k : ℕ) → k < length flat → (words ≡ 0) ⊎ (words ≢ 0) → get_or flat k 0 ≡ get_or (flat_map (words_of words test) rows) k 0
    at k h (inl none) = absurd (let e = ap (λ n. length rows * n) none in omega (arith, h, long, e))
    at k h (inr some) =
        let above : 0 < words = omega arith in
        let split : k / words * words + k % words ≡ k = omega (arith, div-add-mod k words, mul_comm words (k / words)) in
        let in_height : k / words < length rows = (div-lt_iff_lt-mul above).1 (omega (arith, h, long)) in
        subst (λ n. get_or flat n 0 ≡ get_or (flat_map (words_of words test) rows) n 0) split
        (each (k / words) (k % words) in_height (mod-lt k above) ∙ sym (word-rows words test rows (k / words) (k % words) in_height (mod-lt k above)))

pub words_from_bits : (words : ℕ) (test : ℤ → Bool) (rows : List (List ℤ)) (flat : List ℕ) → test (pos 0) ≡ false → length flat ≡ length rows * words → ((k : ℕ) → get_or flat k 0 < 2 ^ 64)
    → ((row chunk place : ℕ) → row < length rows → chunk < words → place < 64 → bit_at (get_or flat (row * words + chunk) 0) place ≡ cond (test (get_or (get_or rows row []) (64 * chunk + place) (pos 0))) 1 0)
    → flat ≡ flat_map (words_of words test) rows
words_from_bits words test rows flat none long are_words each =
    words_from_each words test rows flat long (λ row chunk in_height in_words.
    same_from_bits_below 64 (get_or flat (row * words + chunk) 0) (word_of test (get_or rows row []) chunk) (are_words (row * words + chunk)) (word_of-lt test (get_or rows row []) chunk)
    (λ place small. each row chunk place in_height in_words small ∙ sym (bit-word_of test (get_or rows row []) chunk place none small)))

-- an entry from its bits
value_is : (z : ℤ) → IsEntry z → value_of (is_nonzero z) (is_minus z) ≡ z
value_is (pos zero) is = refl
value_is (pos (suc n)) is = let one : n ≡ 0 = omega (arith, ints, is.high) in ap (λ k. pos (suc k)) (sym one)
value_is (negsuc n) is = let one : n ≡ 0 = omega (arith, ints, is.low) in ap negsuc (sym one)

-- the planes of a matrix determine its rows
pub rows-in_planes : (m : Matrix) (rows columns : ℕ) (support minus : List ℕ) → IsMatrix m → height m ≡ rows → m.width ≡ columns
    → support ≡ flat_map (words_of (words_for columns) is_nonzero) m.rows → minus ≡ flat_map (words_of (words_for columns) is_minus) m.rows
    → rows_in rows columns support minus ≡ m.rows
rows-in_planes m rows columns support minus is high wide s_is m_is =
    ext_get_or [] (rows_in rows columns support minus) m.rows (length-map-range_with_len made 0 rows ∙ sym high) (λ row h. row_is row (omega (arith, h, length-map-range_with_len made 0 rows)))
  where
    made : ℕ → List ℤ
    made row = map (plane_entry (words_for columns) support minus row) (first_lines columns)

    entry_is : (row column : ℕ) → row < rows → column < columns → plane_entry (words_for columns) support minus row column ≡ entry m row column
    entry_is row column in_height in_width =
        let inside : column / 64 < words_for columns = omega arith in
        let low : row < height m = omega arith in
        ap₂ value_of
        (ap (λ (plane : List ℕ). is_in (words_for columns) plane row column) s_is ∙ in_rows (words_for columns) is_nonzero m.rows row column refl low inside)
        (ap (λ (plane : List ℕ). is_in (words_for columns) plane row column) m_is ∙ in_rows (words_for columns) is_minus m.rows row column refl low inside)
        ∙ value_is (entry m row column) (is.small row column)

    row_is : (row : ℕ) → row < rows → get_or (rows_in rows columns support minus) row [] ≡ get_or m.rows row []
    row_is row h =
        get_or-map-range_with_len made 0 rows row row [] h (omega arith)
        ∙ ext_get_or (pos 0) (made row) (get_or m.rows row []) (length-map-range_with_len (plane_entry (words_for columns) support minus row) 0 columns ∙ sym wide ∙ sym (is.rectangular row (omega arith)))
        (λ column c.
        let inside : column < columns = omega (arith, c, length-map-range_with_len (plane_entry (words_for columns) support minus row) 0 columns) in
        get_or-map-range_with_len (plane_entry (words_for columns) support minus row) 0 columns column column (pos 0) inside (omega arith) ∙ entry_is row column h inside)
