-- The words of a row as numbers.
use Rattle.std.proofs.Common.{◌≡◌, ◌<◌, ◌≤◌, ◌+◌, ◌*◌, ◌^◌, ◌∙◌, ℕ, zero, suc, Bool, ℤ, List, [], ◌∷◌, length, take, drop, refl, ap, arith}
use Rattle.std.proofs.lemmas.List.{length-drop, take_all}
use Rattle.std.proofs.Math.Nat.{pow-suc, zero-mul}
use Rattle.cmr_base.specs.Matrix.{Matrix, height, row_of, IsMatrix}
use Rattle.parity.specs.Equations.{number_of}
use Rattle.cmr_base.specs.Planes.{bits_of, word_of, words_for, words_of}
use Rattle.cmr_base.proofs.PlaneWords.{length-words_of}

bits_of-split : (test : ℤ → Bool) (k : ℕ) (zs : List ℤ) → bits_of test (drop k zs) * 2 ^ k + bits_of test (take k zs) ≡ bits_of test zs
bits_of-split test zero zs = omega arith
bits_of-split test (suc k) [] = omega (arith, zero-mul (2 ^ suc k))
bits_of-split test (suc k) (z ∷ zs) =
    let twice = ap (λ n. bits_of test (drop k zs) * n) (pow-suc 2 k) in
    omega (arith, bits_of-split test k zs, twice)

pub number_of-words_of : (count : ℕ) (test : ℤ → Bool) (zs : List ℤ) → length zs ≤ 64 * count → number_of (words_of count test zs) ≡ bits_of test zs
number_of-words_of zero test [] h = refl
number_of-words_of zero test (z ∷ zs) h = absurd (omega arith)
number_of-words_of (suc count) test zs h =
    ap (λ n. n * 2 ^ 64 + bits_of test (take 64 zs)) (number_of-words_of count test (drop 64 zs) (omega (arith, length-drop 64 zs)))
    ∙ bits_of-split test 64 zs

-- the words of a row
pub number_of-row : (m : Matrix) (test : ℤ → Bool) (row : ℕ) (words : List ℕ) → IsMatrix m → row < height m
    → words ≡ words_of (words_for m.width) test (row_of m row) → number_of words ≡ bits_of test (row_of m row)
number_of-row m test row words is h e = ap number_of e ∙ number_of-words_of (words_for m.width) test (row_of m row) (omega (arith, is.rectangular row h))

pub length-row : (m : Matrix) (test : ℤ → Bool) (row : ℕ) (words : List ℕ) → words ≡ words_of (words_for m.width) test (row_of m row) → length words ≡ words_for m.width
length-row m test row words e = ap length e ∙ length-words_of (words_for m.width) test (row_of m row)

-- a row of at most 64 columns is one word
pub one_word : (m : Matrix) (test : ℤ → Bool) (row : ℕ) → IsMatrix m → row < height m → m.width ≤ 64 → word_of test (row_of m row) 0 ≡ bits_of test (row_of m row)
one_word m test row is h narrow = ap (bits_of test) (take_all 64 (row_of m row) (omega (arith, is.rectangular row h)))
