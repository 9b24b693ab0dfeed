-- Planes in which the rows of another plane are columns, during their construction: row by row, and word by word.
use Rattle.std.specs.Prelude.{◌≡◌, ◌≢◌, ◌<◌, ◌≤◌, ◌+◌, ◌*◌, ◌⊎◌, ℕ, false, List, length}
use Rattle.cmr_base.specs.ColumnSets.{has_column}
use Rattle.cmr_base.specs.MatrixLayout.{is_in}
use Rattle.cmr_base.specs.Planes.{has_bit, words_for}
use Rattle.cmr_base.specs.Runs.{AreWords}

-- no row of a plane has a bit past its last column
abbrev pub HasNoBitPast : List ℕ → ℕ → ℕ → Type 0
HasNoBitPast plane rows columns = (row column : ℕ) → row < rows → columns ≤ column → column < 64 * words_for columns → is_in (words_for columns) plane row column ≡ false

-- the bits of a word, whose first column is given, are in a row's column, and no other bit is changed
pub record IsWordTransposed (to row first word : ℕ) (before after : List ℕ) : Type 0 where
  pub long : length after ≡ length before
  pub are_words : AreWords before → AreWords after
  pub bits : (k : ℕ) → k < 64 → is_in to after (first + k) row ≡ has_bit word k
  pub others : (column r : ℕ) → r < 64 * to → (r ≢ row) ⊎ ((column < first) ⊎ (first + 64 ≤ column)) → is_in to after column r ≡ is_in to before column r

-- the bits of the first `count` columns of a row are in the row's column, and no other bit is changed
pub record IsRowTransposed (to row : ℕ) (words : List ℕ) (count : ℕ) (before after : List ℕ) : Type 0 where
  pub long : length after ≡ length before
  pub are_words : AreWords before → AreWords after
  pub bits : (column : ℕ) → column < count → is_in to after column row ≡ has_column words column
  pub others : (column r : ℕ) → r < 64 * to → (r ≢ row) ⊎ (count ≤ column) → is_in to after column r ≡ is_in to before column r

-- the first `count` rows of a plane are columns, and all other bits are 0
pub record IsPlaneTransposed (width to : ℕ) (plane : List ℕ) (count : ℕ) (made : List ℕ) : Type 0 where
  pub long : length made ≡ width * to
  pub are_words : AreWords made
  pub bits : (column row : ℕ) → column < width → row < count → is_in to made column row ≡ is_in (words_for width) plane row column
  pub empty : (column row : ℕ) → count ≤ row → row < 64 * to → is_in to made column row ≡ false
