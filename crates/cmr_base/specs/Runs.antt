-- Chosen columns in runs, and words with the bits of the chosen columns of other words.
use Rattle.std.specs.Prelude.{◌≡◌, ◌<◌, ◌≤◌, ◌+◌, ◌*◌, ◌%◌, ◌^◌, ◌⊎◌, ◌||◌, ℕ, zero, suc, false, List, length, slice_index, slice_index_or}
use Rattle.cmr_base.specs.declared.runs.Run.{Run}
use Rattle.cmr_base.specs.ColumnSets.{has_column}
use Rattle.cmr_base.specs.Planes.{words_for}

-- from an index on, `size` chosen columns are consecutive, and their bits are in one word of the part
pub record IsRun (columns : List ℕ) (first place size : ℕ) : Type 0 where
  pub some : 1 ≤ size
  pub in_word : place % 64 + size ≤ 64
  pub inside : place + size ≤ length columns
  pub follows : (k : ℕ) → k < size → slice_index columns (place + k) ≡ first + k

abbrev pub run_at : List Run → ℕ → Run
run_at runs k = slice_index_or runs k (record { column = 0; place = 0; size = 0 })

-- the index after the runs before a number
abbrev pub end_before : List Run → ℕ → ℕ
end_before runs zero = 0
end_before runs (suc k) = (run_at runs k).place + (run_at runs k).size

-- the runs of the first `count` chosen columns, in their order
pub record AreRuns (columns : List ℕ) (runs : List Run) (count : ℕ) : Type 0 where
  pub each : (k : ℕ) → k < length runs → IsRun columns (run_at runs k).column (run_at runs k).place (run_at runs k).size
  pub joined : (k : ℕ) → k < length runs → (run_at runs k).place ≡ end_before runs k
  pub whole : end_before runs (length runs) ≡ count

-- each number is a word of 64 bits
abbrev pub AreWords : List ℕ → Type 0
AreWords words = (k : ℕ) → slice_index_or words k 0 < 2 ^ 64

-- consecutive columns were added, with the bits that other words have from a column on
pub record IsRunAdded (words : List ℕ) (column size start : ℕ) (before after : List ℕ) : Type 0 where
  pub long : length after ≡ length before
  pub are_words : AreWords before → AreWords after
  pub added : (k : ℕ) → k < size → has_column after (start + k) ≡ (has_column before (start + k) || has_column words (column + k))
  pub others : (c : ℕ) → (c < start) ⊎ (start + size ≤ c) → has_column after c ≡ has_column before c

-- the first `count` chosen columns of other words are written from a position on, and all other bits are unchanged
pub record IsRowChosen (words columns : List ℕ) (start count : ℕ) (before after : List ℕ) : Type 0 where
  pub long : length after ≡ length before
  pub are_words : AreWords before → AreWords after
  pub chosen : (k : ℕ) → k < count → has_column after (start + k) ≡ has_column words (slice_index columns k)
  pub others : (c : ℕ) → (c < start) ⊎ (start + count ≤ c) → has_column after c ≡ has_column before c

-- the first `count` chosen rows of a plane have the bits of the chosen columns, and all other bits are 0
pub record IsPlaneChosen (width : ℕ) (plane rows columns : List ℕ) (count : ℕ) (made : List ℕ) : Type 0 where
  pub long : length made ≡ length rows * words_for (length columns)
  pub are_words : AreWords made
  pub chosen : (i k : ℕ) → i < count → k < length columns
      → has_column made (64 * (i * words_for (length columns)) + k) ≡ has_column plane (64 * (slice_index rows i * words_for width) + slice_index columns k)
  pub empty : (i k : ℕ) → i < length rows → k < 64 * words_for (length columns) → (count ≤ i) ⊎ (length columns ≤ k) → has_column made (64 * (i * words_for (length columns)) + k) ≡ false
