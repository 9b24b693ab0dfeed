-- Numbers that distinguish most lists of words.
use Rattle.std.specs.Prelude.{◌≢◌, ◌<◌, ◌*◌, ◌%◌, ◌^◌, ℕ, List, length, slice_index_or}
use Rattle.std.specs.Int.{w64, rotate_left}
use Rattle.std.specs.Int.Bits.{bit_xor}

-- a digest after one more word
abbrev pub mixed : ℕ → ℕ → ℕ
mixed digest word = (bit_xor (rotate_left w64 digest 32) word * 11400714819323198485) % 2 ^ 64

-- no number occurs twice
abbrev pub AreDifferent : List ℕ → Type 0
AreDifferent numbers = (one other : ℕ) → one < other → other < length numbers → slice_index_or numbers one 0 ≢ slice_index_or numbers other 0
