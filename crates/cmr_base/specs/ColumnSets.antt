-- Sets of columns as words: column c is in a set if and only if the bit 2^(c mod 64) of word c / 64 is 1.
use Rattle.std.specs.Prelude.{◌≡◌, ◌<◌, ◌≤◌, ◌*◌, ◌/◌, ◌%◌, ◌||◌, ℕ, Bool, true, false, List, length, slice_index_or}
use Rattle.cmr_base.specs.Planes.{has_bit}

abbrev pub has_column : List ℕ → ℕ → Bool
has_column set column = has_bit (slice_index_or set (column / 64) 0) (column % 64)

-- some column is in both sets
abbrev pub HasCommon : List ℕ → List ℕ → Type 0
HasCommon one two = (column : ℕ) × (has_column one column ≡ true) × (has_column two column ≡ true)

-- each column of the first set is in the second
abbrev pub IsWithin : List ℕ → List ℕ → Type 0
IsWithin one two = (column : ℕ) → has_column one column ≡ true → has_column two column ≡ true

-- no column of the first set is in the second
abbrev pub IsApart : List ℕ → List ℕ → Type 0
IsApart one two = (column : ℕ) → has_column one column ≡ true → has_column two column ≡ false

-- false if and only if the proposition is true
abbrev pub Denies : Bool → Type 0 → Type 0
Denies true P = ¬ P
Denies false P = P

-- a loop invariant: the columns below a chunk that pass a test are added, and no columns from the chunk on
pub record IsAdded (test : ℕ → Bool) (before after : List ℕ) (chunk : ℕ) : Type 0 where
  pub size : length after ≡ length before
  pub done : (column : ℕ) → column < 64 * chunk → has_column after column ≡ (has_column before column || test column)
  pub left : (column : ℕ) → 64 * chunk ≤ column → has_column after column ≡ has_column before column
