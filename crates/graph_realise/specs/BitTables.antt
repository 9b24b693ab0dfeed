-- Tables of truth values, whose rows are words of bits.
use Rattle.std.specs.Prelude.{◌≡◌, ◌≢◌, ◌<◌, ◌≤◌, ◌+◌, ◌*◌, ◌/◌, ℕ, Bool, true, false, cond, nat_lt, List, length, slice_index}
use Rattle.std.specs.List.Sorted.{IsStrictlyIncreasing}
use Rattle.cmr_base.specs.Members.{IsIn}
use Rattle.cmr_base.specs.MatrixLayout.{is_in}
use Rattle.cmr_base.specs.Planes.{has_bit, words_for}

pub record Grid : Type 0 where
  pub height : ℕ
  pub width : ℕ
  pub words : List ℕ

-- the value in a row and a column, and `false` outside the table
abbrev pub cell : Grid → ℕ → ℕ → Bool
cell table row column = cond (nat_lt column table.width) (is_in (words_for table.width) table.words row column) false

-- all cells of other rows and the sizes are the same
pub record KeepsOtherRows (old new : Grid) (row : ℕ) : Type 0 where
  pub height : new.height ≡ old.height
  pub width : new.width ≡ old.width
  pub others : (r column : ℕ) → r ≢ row → cell new r column ≡ cell old r column

-- only one cell changes
pub record IsCellSet (old new : Grid) (row column : ℕ) (value : Bool) : Type 0 where
  pub rows : KeepsOtherRows old new row
  pub here : cell new row column ≡ value
  pub others : (c : ℕ) → c ≢ column → cell new row c ≡ cell old row c

-- 64 cells of a row have the bits of a word
pub record IsWordSet (old new : Grid) (row chunk word : ℕ) : Type 0 where
  pub rows : KeepsOtherRows old new row
  pub here : (k : ℕ) → k < 64 → 64 * chunk + k < old.width → cell new row (64 * chunk + k) ≡ has_bit word k
  pub others : (c : ℕ) → c / 64 ≢ chunk → cell new row c ≡ cell old row c

-- an increasing list of chunks of columns that contains the chunks of all columns of a set
pub record AreChunksOf (columns : ℕ → Bool) (width : ℕ) (chunks : List ℕ) : Type 0 where
  pub increasing : IsStrictlyIncreasing chunks
  pub inside : (k : ℕ) → k < length chunks → 64 * slice_index chunks k < width
  pub all : (column : ℕ) → columns column ≡ true → IsIn (column / 64) chunks

-- the columns of one row in the first `count` chunks of a list have the values of a function
pub record AreChunksFilled (values : ℕ → Bool) (old new : Grid) (row : ℕ) (chunks : List ℕ) (count : ℕ) : Type 0 where
  pub rows : KeepsOtherRows old new row
  pub done : (k column : ℕ) → k < count → column / 64 ≡ slice_index chunks k → column < old.width → cell new row column ≡ values column
  pub left : (column : ℕ) → ((k : ℕ) → k < count → column / 64 ≢ slice_index chunks k) → cell new row column ≡ cell old row column

-- the first `count` columns of one row have the values of a function
pub record IsRowFilled (values : ℕ → Bool) (old new : Grid) (row count : ℕ) : Type 0 where
  pub rows : KeepsOtherRows old new row
  pub done : (column : ℕ) → column < count → column < old.width → cell new row column ≡ values column
  pub left : (column : ℕ) → count ≤ column → cell new row column ≡ cell old row column
