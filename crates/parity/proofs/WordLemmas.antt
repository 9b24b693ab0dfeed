-- The number of a list of words, bit by bit.
use Rattle.std.proofs.Common.{◌≡◌, ◌≢◌, ◌<◌, ◌≤◌, ◌+◌, ◌-◌, ◌*◌, ◌/◌, ◌%◌, ◌^◌, ◌∙◌, ◌⊎◌, ℕ, zero, suc, List, [], ◌∷◌, length, get_or, set, drop, replicate, refl, ap, ap₂, sym, subst, inl, inr, arith, min, get_or-set_same, get_or-set_other}
use Rattle.std.specs.Prelude.{bit_and, bit_xor, count_ones}
use Rattle.std.specs.Int.{bit_at}
use Rattle.std.proofs.lemmas.Nat.{and_block, and_le_l, ones_cat, pow_below, xor_lt}
use Rattle.std.proofs.lemmas.List.{drop_all, drop_more, get_or-drop, get_or_past}
use Rattle.std.proofs.lemmas.Nat.Bits.{bit_at_and, bit_at_xor, bit_at-zero, bit_at-lt, bit_at_cat_low, bit_at_cat_high, bit_at-pow_same, bit_at-pow_other, same_from_bits}
use Rattle.std.proofs.lemmas.Bool.{cases_lt, cases_eq}
use Rattle.parity.specs.Equations.{number_of, IsLowest}
use Rattle.parity.specs.PlaneSums.{without_columns}
use Rattle.parity.proofs.Bits.{ones-zero}

-- each word has 64 bits
abbrev pub AreWords : List ℕ → Type 0
AreWords words = (k : ℕ) → get_or words k 0 < 2 ^ 64

rest_words : (word : ℕ) (words : List ℕ) → AreWords (word ∷ words) → AreWords words
rest_words word words are k = are (suc k)

pub bit_at-number_of : (words : List ℕ) (i : ℕ) → AreWords words → bit_at (number_of words) i ≡ bit_at (get_or words (i / 64) 0) (i % 64)
bit_at-number_of [] i are = bit_at-zero i ∙ sym (bit_at-zero (i % 64))
bit_at-number_of (word ∷ words) i are = by (cases_lt i 64) (λ (j : ℕ). bit_at-number_of words j (rest_words word words are))
  where
    by : (i < 64) ⊎ (64 ≤ i) → ((j : ℕ) → bit_at (number_of words) j ≡ bit_at (get_or words (j / 64) 0) (j % 64))
        → bit_at (number_of words * 2 ^ 64 + word) i ≡ bit_at (get_or (word ∷ words) (i / 64) 0) (i % 64)
    by (inl low) later =
        let first : i / 64 ≡ 0 = omega arith in
        let same : i % 64 ≡ i = omega arith in
        rw (first, same) (bit_at_cat_low (number_of words) 64 word i low)
    by (inr high) later =
        let next : i / 64 ≡ suc ((i - 64) / 64) = omega arith in
        let same : i % 64 ≡ (i - 64) % 64 = omega arith in
        rw (next, same) (bit_at_cat_high (number_of words) 64 word i (are 0) high ∙ later (i - 64))

number_of-xor_each : (xs ys zs : List ℕ) → AreWords xs → AreWords ys → ((k : ℕ) → get_or zs k 0 ≡ bit_xor (get_or xs k 0) (get_or ys k 0)) → number_of zs ≡ bit_xor (number_of xs) (number_of ys)
number_of-xor_each xs ys zs x_words y_words each = same_from_bits (number_of zs) (bit_xor (number_of xs) (number_of ys)) (λ i.
    bit_at-number_of zs i (λ k. subst (λ n. n < 2 ^ 64) (sym (each k)) (xor_lt 64 (get_or xs k 0) (get_or ys k 0) (x_words k) (y_words k)))
    ∙ ap (λ n. bit_at n (i % 64)) (each (i / 64)) ∙ bit_at_xor (get_or xs (i / 64) 0) (get_or ys (i / 64) 0) (i % 64)
    ∙ ap₂ (λ (a b : ℕ). (a + b) % 2) (sym (bit_at-number_of xs i x_words)) (sym (bit_at-number_of ys i y_words))
    ∙ sym (bit_at_xor (number_of xs) (number_of ys) i))

-- the words of the symmetric difference of two sets
pub number_of-xor : (xs ys zs : List ℕ) → AreWords xs → AreWords ys → length ys ≡ length xs → length zs ≡ length xs
    → ((k : ℕ) → k < length xs → get_or zs k 0 ≡ bit_xor (get_or xs k 0) (get_or ys k 0)) → number_of zs ≡ bit_xor (number_of xs) (number_of ys)
number_of-xor xs ys zs x_words y_words y_long z_long each = number_of-xor_each xs ys zs x_words y_words (λ k. by k (cases_lt k (length xs)))
  where
    by : (k : ℕ) → (k < length xs) ⊎ (length xs ≤ k) → get_or zs k 0 ≡ bit_xor (get_or xs k 0) (get_or ys k 0)
    by k (inl lt) = each k lt
    by k (inr past) = get_or_past zs k 0 (omega arith) ∙ sym (ap₂ bit_xor (get_or_past xs k 0 past) (get_or_past ys k 0 (omega arith)))

-- the high bits of sums modulo 4, with one row added
pub number_of-carry : (ones twos support minus after : List ℕ) → AreWords ones → AreWords twos → AreWords support → AreWords minus → length twos ≡ length ones
    → length support ≡ length ones → length minus ≡ length ones → length after ≡ length ones
    → ((k : ℕ) → k < length ones → get_or after k 0 ≡ bit_xor (get_or twos k 0) (bit_xor (bit_and (get_or ones k 0) (get_or support k 0)) (get_or minus k 0)))
    → number_of after ≡ bit_xor (number_of twos) (bit_xor (bit_and (number_of ones) (number_of support)) (number_of minus))
number_of-carry ones twos support minus after o_words t_words s_words m_words t_long s_long m_long a_long each =
    same_from_bits (number_of after) (bit_xor (number_of twos) (bit_xor (bit_and (number_of ones) (number_of support)) (number_of minus))) (λ i.
    bit_at-number_of after i fits
    ∙ ap (λ n. bit_at n (i % 64)) (all (i / 64) (cases_lt (i / 64) (length ones)))
    ∙ bits_are (get_or ones (i / 64) 0) (get_or twos (i / 64) 0) (get_or support (i / 64) 0) (get_or minus (i / 64) 0) (i % 64)
    ∙ joined (bit_at-number_of ones i o_words) (bit_at-number_of twos i t_words) (bit_at-number_of support i s_words) (bit_at-number_of minus i m_words)
    ∙ sym (bits_are (number_of ones) (number_of twos) (number_of support) (number_of minus) i))
  where
    all : (k : ℕ) → (k < length ones) ⊎ (length ones ≤ k) → get_or after k 0 ≡ bit_xor (get_or twos k 0) (bit_xor (bit_and (get_or ones k 0) (get_or support k 0)) (get_or minus k 0))
    all k (inl lt) = each k lt
    all k (inr past) =
        get_or_past after k 0 (omega arith)
        ∙ sym (ap₂ bit_xor (get_or_past twos k 0 (omega arith)) (ap₂ bit_xor (ap₂ bit_and (get_or_past ones k 0 past) (get_or_past support k 0 (omega arith))) (get_or_past minus k 0 (omega arith))))

    fits : AreWords after
    fits k = subst (λ n. n < 2 ^ 64) (sym (all k (cases_lt k (length ones))))
        (xor_lt 64 (get_or twos k 0) (bit_xor (bit_and (get_or ones k 0) (get_or support k 0)) (get_or minus k 0)) (t_words k)
        (xor_lt 64 (bit_and (get_or ones k 0) (get_or support k 0)) (get_or minus k 0) (omega (arith, and_le_l (get_or ones k 0) (get_or support k 0), o_words k)) (m_words k)))

    carried : ℕ → ℕ → ℕ → ℕ → ℕ
    carried o t s m = (t + (min o s + m) % 2) % 2

    bits_are : (o t s m i : ℕ) → bit_at (bit_xor t (bit_xor (bit_and o s) m)) i ≡ carried (bit_at o i) (bit_at t i) (bit_at s i) (bit_at m i)
    bits_are o t s m i = bit_at_xor t (bit_xor (bit_and o s) m) i ∙ ap (λ n. (bit_at t i + n) % 2) (bit_at_xor (bit_and o s) m i ∙ ap (λ n. (n + bit_at m i) % 2) (bit_at_and o s i))

    joined : {o o' t t' s s' m m' : ℕ} → o' ≡ o → t' ≡ t → s' ≡ s → m' ≡ m → carried o t s m ≡ carried o' t' s' m'
    joined eo et es em = cc

-- the words of the difference of two sets
pub number_of-without_columns : (bits excluded after : List ℕ) → AreWords bits → AreWords excluded → length bits ≡ length after → length excluded ≡ length after
    → ((k : ℕ) → k < length after → get_or after k 0 ≡ bit_xor (get_or bits k 0) (bit_and (get_or bits k 0) (get_or excluded k 0)))
    → number_of after ≡ without_columns (number_of excluded) (number_of bits)
number_of-without_columns bits excluded after b_words g_words b_long g_long each =
    same_from_bits (number_of after) (without_columns (number_of excluded) (number_of bits)) (λ i.
    bit_at-number_of after i fits
    ∙ ap (λ n. bit_at n (i % 64)) (all (i / 64) (cases_lt (i / 64) (length after)))
    ∙ bits_are (get_or bits (i / 64) 0) (get_or excluded (i / 64) 0) (i % 64)
    ∙ ap₂ (λ (b g : ℕ). (b + min b g) % 2) (sym (bit_at-number_of bits i b_words)) (sym (bit_at-number_of excluded i g_words))
    ∙ sym (bits_are (number_of bits) (number_of excluded) i))
  where
    all : (k : ℕ) → (k < length after) ⊎ (length after ≤ k) → get_or after k 0 ≡ bit_xor (get_or bits k 0) (bit_and (get_or bits k 0) (get_or excluded k 0))
    all k (inl lt) = each k lt
    all k (inr past) = get_or_past after k 0 past ∙ sym (ap₂ bit_xor (get_or_past bits k 0 (omega arith)) (ap₂ bit_and (get_or_past bits k 0 (omega arith)) (get_or_past excluded k 0 (omega arith))))

    fits : AreWords after
    fits k = subst (λ n. n < 2 ^ 64) (sym (all k (cases_lt k (length after))))
        (xor_lt 64 (get_or bits k 0) (bit_and (get_or bits k 0) (get_or excluded k 0)) (b_words k) (omega (arith, and_le_l (get_or bits k 0) (get_or excluded k 0), b_words k)))

    bits_are : (b g i : ℕ) → bit_at (bit_xor b (bit_and b g)) i ≡ (bit_at b i + min (bit_at b i) (bit_at g i)) % 2
    bits_are b g i = bit_at_xor b (bit_and b g) i ∙ ap (λ n. (bit_at b i + n) % 2) (bit_at_and b g i)

-- a column toggled
pub number_of-toggle : (words : List ℕ) (column : ℕ) → AreWords words → column / 64 < length words
    → number_of (set words (column / 64) (bit_xor (get_or words (column / 64) 0) (2 ^ (column % 64)))) ≡ bit_xor (number_of words) (2 ^ column)
number_of-toggle words column are h = same_from_bits (number_of after) (bit_xor (number_of words) (2 ^ column)) (λ i.
    bit_at-number_of after i (λ k. fits k (cases_eq k (column / 64))) ∙ at i (cases_eq (i / 64) (column / 64)) ∙ sym (bit_at_xor (number_of words) (2 ^ column) i ∙ ap (λ n. (n + bit_at (2 ^ column) i) % 2) (bit_at-number_of words i are)))
  where
    word : ℕ
    word = get_or words (column / 64) 0

    after : List ℕ
    after = set words (column / 64) (bit_xor word (2 ^ (column % 64)))

    fits : (k : ℕ) → (k ≡ column / 64) ⊎ (k ≢ column / 64) → get_or after k 0 < 2 ^ 64
    fits k (inl e) =
        let low : column % 64 < 64 = omega arith in
        subst (λ n. n < 2 ^ 64) (sym (ap (λ j. get_or after j 0) e ∙ get_or-set_same words (column / 64) (bit_xor word (2 ^ (column % 64))) 0 h)) (xor_lt 64 word (2 ^ (column % 64)) (are (column / 64)) (pow_below (column % 64) 64 low))
    fits k (inr ne) = subst (λ n. n < 2 ^ 64) (sym (get_or-set_other words (column / 64) k (bit_xor word (2 ^ (column % 64))) 0 ne)) (are k)

    same_bit : (i : ℕ) → i / 64 ≡ column / 64 → (i ≡ column) ⊎ (i ≢ column) → bit_at (2 ^ (column % 64)) (i % 64) ≡ bit_at (2 ^ column) i
    same_bit i e (inl here) =
        subst (λ j. bit_at (2 ^ (column % 64)) (j % 64) ≡ bit_at (2 ^ column) j) (sym here) (bit_at-pow_same (column % 64) ∙ sym (bit_at-pow_same column))
    same_bit i e (inr other) =
        let apart : i % 64 ≢ column % 64 = omega arith in
        bit_at-pow_other (column % 64) (i % 64) apart ∙ sym (bit_at-pow_other column i other)

    at : (i : ℕ) → (i / 64 ≡ column / 64) ⊎ (i / 64 ≢ column / 64) → bit_at (get_or after (i / 64) 0) (i % 64) ≡ (bit_at (get_or words (i / 64) 0) (i % 64) + bit_at (2 ^ column) i) % 2
    at i (inl e) =
        ap (λ n. bit_at n (i % 64)) (ap (λ k. get_or after k 0) e ∙ get_or-set_same words (column / 64) (bit_xor word (2 ^ (column % 64))) 0 h)
        ∙ bit_at_xor word (2 ^ (column % 64)) (i % 64)
        ∙ ap₂ (λ (a b : ℕ). (a + b) % 2) (ap (λ k. bit_at (get_or words k 0) (i % 64)) (sym e)) (same_bit i e (cases_eq i column))
    at i (inr ne) =
        let other : i ≢ column = omega arith in
        ap (λ n. bit_at n (i % 64)) (get_or-set_other words (column / 64) (i / 64) (bit_xor word (2 ^ (column % 64))) 0 ne)
        ∙ omega (arith, bit_at-pow_other column i other, bit_at-lt (get_or words (i / 64) 0) (i % 64))

-- the least column, by the first nonzero word
pub number_of-lowest : (words : List ℕ) (place bit : ℕ) → AreWords words → bit < 64 → bit_at (get_or words place 0) bit ≡ 1
    → ((i : ℕ) → i < bit → bit_at (get_or words place 0) i ≡ 0) → ((k : ℕ) → k < place → get_or words k 0 ≡ 0) → IsLowest (number_of words) (64 * place + bit)
number_of-lowest words place bit are in_word one below before = record {
  there =
      let high : (64 * place + bit) / 64 ≡ place = omega arith in
      let low : (64 * place + bit) % 64 ≡ bit = omega arith in
      bit_at-number_of words (64 * place + bit) are ∙ rw (high, low) one;
  none_below = λ other h. bit_at-number_of words other are ∙ at other h (cases_lt (other / 64) place);
}
  where
    at : (other : ℕ) → other < 64 * place + bit → (other / 64 < place) ⊎ (place ≤ other / 64) → bit_at (get_or words (other / 64) 0) (other % 64) ≡ 0
    at other h (inl lt) = ap (λ n. bit_at n (other % 64)) (before (other / 64) lt) ∙ bit_at-zero (other % 64)
    at other h (inr up) =
        let here : other / 64 ≡ place = omega arith in
        ap (λ k. bit_at (get_or words k 0) (other % 64)) here ∙ below (other % 64) (omega arith)

pub number_of-none : (words : List ℕ) → AreWords words → ((k : ℕ) → k < length words → get_or words k 0 ≡ 0) → number_of words ≡ 0
number_of-none words are none = same_from_bits (number_of words) 0 (λ i. bit_at-number_of words i are ∙ ap (λ n. bit_at n (i % 64)) (by (i / 64) (cases_lt (i / 64) (length words))) ∙ bit_at-zero (i % 64) ∙ sym (bit_at-zero i))
  where
    by : (k : ℕ) → (k < length words) ⊎ (length words ≤ k) → get_or words k 0 ≡ 0
    by k (inl lt) = none k lt
    by k (inr past) = get_or_past words k 0 past

-- the intersection of two sets, word by word
pub ones-number_of : (x y : ℕ) (xs ys : List ℕ) → AreWords (x ∷ xs) → AreWords (y ∷ ys)
    → count_ones (bit_and (number_of (x ∷ xs)) (number_of (y ∷ ys))) ≡ count_ones (bit_and (number_of xs) (number_of ys)) + count_ones (bit_and x y)
ones-number_of x y xs ys x_words y_words =
    ap count_ones (and_block 64 (number_of xs) (number_of ys) x y (x_words 0) (y_words 0))
    ∙ ones_cat 64 (bit_and (number_of xs) (number_of ys)) (bit_and x y) (omega (arith, and_le_l x y, x_words 0))

drop_words : (words : List ℕ) (place : ℕ) → AreWords words → AreWords (drop place words)
drop_words words place are k = subst (λ n. n < 2 ^ 64) (sym (get_or-drop place words k 0)) (are (place + k))

pub ones_more : (xs ys : List ℕ) (place : ℕ) → AreWords xs → AreWords ys → length xs ≡ length ys → place < length xs
    → count_ones (bit_and (number_of (drop place xs)) (number_of (drop place ys))) ≡ count_ones (bit_and (number_of (drop (place + 1) xs)) (number_of (drop (place + 1) ys))) + count_ones (bit_and (get_or xs place 0) (get_or ys place 0))
ones_more xs ys place x_words y_words same h =
    let x_more = drop_more xs place 0 h in
    let in_ys : place < length ys = omega arith in
    let y_more = drop_more ys place 0 in_ys in
    ap₂ (λ (prefix back : List ℕ). count_ones (bit_and (number_of prefix) (number_of back))) x_more y_more
    ∙ ones-number_of (get_or xs place 0) (get_or ys place 0) (drop (place + 1) xs) (drop (place + 1) ys) (subst AreWords x_more (drop_words xs place x_words)) (subst AreWords y_more (drop_words ys place y_words))

pub ones_end : (xs ys : List ℕ) (place : ℕ) → length xs ≡ length ys → length xs ≤ place → count_ones (bit_and (number_of (drop place xs)) (number_of (drop place ys))) ≡ 0
ones_end xs ys place same h = ap₂ (λ (prefix back : List ℕ). count_ones (bit_and (number_of prefix) (number_of back))) (drop_all place xs h) (drop_all place ys (omega arith)) ∙ ones-zero

pub number_of-zeros : (count : ℕ) → number_of (replicate count 0) ≡ 0
number_of-zeros zero = refl
number_of-zeros (suc count) = omega (arith, number_of-zeros count)
