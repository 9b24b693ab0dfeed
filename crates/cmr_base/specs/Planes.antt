-- Rows of entries as bits of words: column c is the bit 2^(c mod 64) of word c / 64.
use Rattle.std.specs.Prelude.{◌≡◌, ◌<◌, ◌≤◌, ◌+◌, ◌*◌, ◌/◌, ◌==◌, if◌then◌else◌, ℕ, zero, suc, ℤ, pos, negsuc, Bool, true, false, List, [], ◌∷◌, take, drop, length, slice_index_or}
use Rattle.std.specs.Int.{bit_at}
use Rattle.std.specs.Int.Bits.{bit_xor}

abbrev pub is_minus : ℤ → Bool
is_minus (pos n) = false
is_minus (negsuc n) = true

-- the number with a bit for each entry that passes; the first entry has the lowest bit
abbrev pub bits_of : (ℤ → Bool) → List ℤ → ℕ
bits_of test [] = 0
bits_of test (z ∷ zs) = bits_of test zs * 2 + (if test z then 1 else 0)

-- the number of words for the bits of `columns` columns
abbrev pub words_for : ℕ → ℕ
words_for columns = (columns + 63) / 64

-- a word of the bits of a row; the bits past the row's end are 0
abbrev pub word_of : (ℤ → Bool) → List ℤ → ℕ → ℕ
word_of test zs chunk = bits_of test (take 64 (drop (64 * chunk) zs))

-- the given number of words of the bits of a row
abbrev pub words_of : ℕ → (ℤ → Bool) → List ℤ → List ℕ
words_of zero test zs = []
words_of (suc n) test zs = bits_of test (take 64 zs) ∷ words_of n test (drop 64 zs)

-- whether the word has a bit at a position
abbrev pub has_bit : ℕ → ℕ → Bool
has_bit word place = bit_at word place == 1

-- the words before an index are replaced by their exclusive or with the words of the other list, and the later words are unchanged
pub record IsXorBefore (place : ℕ) (before other after : List ℕ) : Type 0 where
  pub inside : place ≤ length before
  pub long : length after ≡ length before
  pub done : (k : ℕ) → k < place → slice_index_or after k 0 ≡ bit_xor (slice_index_or before k 0) (slice_index_or other k 0)
  pub same : (k : ℕ) → place ≤ k → slice_index_or after k 0 ≡ slice_index_or before k 0
