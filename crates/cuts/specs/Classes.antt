-- Numbers for lines that distinguish lines with different patterns on a set of lines that cross them.
use Rattle.std.specs.Prelude.{◌≡◌, ◌≢◌, ◌<◌, ◌&&◌, ℕ, Bool, true, false, not, nat_eq, nat_lt, List, slice_index_or}
use Rattle.cmr_base.specs.ColumnSets.{has_column}
use Rattle.cmr_base.specs.Matrix.{Matrix, height}
use Rattle.cmr_base.specs.Trees.{support}
use Rattle.cuts.specs.declared.heaps.Heaps.{Heaps}

-- a line with a number other than 0 is not 0 somewhere on the set; of two lines with different numbers exactly one is 0
-- somewhere on the set
pub record AreNumbers (nonzero : (across line : ℕ) → Bool) (size : ℕ) (set numbers : List ℕ) : Type 0 where
  pub met : (x : ℕ) → x < size → slice_index_or numbers x 0 ≢ 0 → (a : ℕ) × (has_column set a ≡ true) × (nonzero a x ≡ true)
  pub apart : (x y : ℕ) → x < size → y < size → slice_index_or numbers x 0 ≢ slice_index_or numbers y 0 → (a : ℕ) × (has_column set a ≡ true) × (nonzero a x ≢ nonzero a y)

-- such numbers for the rows and the columns of a set
abbrev pub AreClassNumbers : Matrix → List ℕ → List ℕ → Type 0
AreClassNumbers m crossing classes = AreNumbers (λ column row. support m row column) (height m) crossing classes

-- a line has a number other than 0, and one of the first `size` lines is in a set and has another number other than 0
abbrev pub IsUnlikeOne : (size : ℕ) → (numbers far : List ℕ) → ℕ → Type 0
IsUnlikeOne size numbers far x = (slice_index_or numbers x 0 ≢ 0) × (k : ℕ) × (k < size) × (has_column far k ≡ true) × (slice_index_or numbers k 0 ≢ 0) × (slice_index_or numbers x 0 ≢ slice_index_or numbers k 0)

-- ---- heaps of classes

abbrev pub is_between : (low high number : ℕ) → Bool
is_between low high number = not (nat_lt number low) && not (nat_lt high number)

-- the class is not 0, and its number is in the interval or outside
abbrev pub is_in_heap : Heaps → ℕ → Bool → Bool
is_in_heap heaps class true = not (nat_eq class 0) && is_between heaps.low heaps.high class
is_in_heap heaps class false = not (nat_eq class 0) && not (is_between heaps.low heaps.high class)
