-- Sets of rows or of columns with their size.
use Rattle.std.specs.Prelude.{◌≡◌, ◌<◌, ◌≤◌, ℕ, true, false, List, length}
use Rattle.cmr_base.specs.declared.limits.TheConstants.{MAX_COLUMNS}
use Rattle.cmr_base.specs.ColumnSets.{has_column}
use Rattle.cmr_base.specs.Planes.{words_for}

-- a set of numbers below a size: x is in the set if and only if bit x of the words is 1
pub record Bits : Type 0 where
  pub size : ℕ
  pub words : List ℕ

-- the words of a set of numbers below a size
pub record AreWordsOf (size : ℕ) (words : List ℕ) : Type 0 where
  pub long : length words ≡ words_for size
  pub inside : (x : ℕ) → has_column words x ≡ true → x < size

-- the invariant of the type `BitSet`
pub record IsBitSet (set : Bits) : Type 0 where
  pub few : set.size ≤ MAX_COLUMNS
  pub words : AreWordsOf set.size set.words

-- the first number of a set that is at least `from`
pub record IsNextOf (set : Bits) (from next : ℕ) : Type 0 where
  pub low : from ≤ next
  pub inside : next < set.size
  pub member : has_column set.words next ≡ true
  pub first : (x : ℕ) → from ≤ x → x < next → has_column set.words x ≡ false
