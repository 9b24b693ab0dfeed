-- The greedy search for a minimal submatrix that is not series-parallel.
use Rattle.std.specs.Prelude.{◌≡◌, ◌<◌, ◌≤◌, ◌+◌, ◌-◌, ℕ, Bool, List, [], length}
use Rattle.cmr_base.specs.declared.line_set.LineSet.{LineSet}
use Rattle.cmr_base.specs.Matrix.{Matrix, height, entry}
use Rattle.cmr_base.specs.LineSets.{IsRowSet, IsColumnSet}
use Rattle.cmr_base.specs.GreedySets.{IsGreedyFrom, IsGreedySet}
use Rattle.cmr_base.specs.Reductions.{HasLine, rows_without, columns_without, Removal, removal_on, IsSeriesParallel, IsSeriesParallelOn}
use Rattle.minimal_sets.specs.LeftOut.{line_numbered, lines_between, rows_left, columns_left}

-- the stated order, on a set without the `count` lines from a number on
abbrev pub removal_without : Bool → Matrix → LineSet → ℕ → ℕ → Removal
removal_without binary m lines from count =
    let omitted = lines_between (height m) from count in
    let rows = rows_left lines.rows omitted in
    let columns = columns_left lines.columns omitted in
    removal_on binary (entry m) (length rows + length columns) rows columns

-- the lines that it leaves; there are some
pub record IsRestWithout (binary : Bool) (m : Matrix) (lines : LineSet) (from count : ℕ) (rest : LineSet) : Type 0 where
  pub rows : rest.rows ≡ (removal_without binary m lines from count).rows
  pub columns : rest.columns ≡ (removal_without binary m lines from count).columns
  pub some : ¬ ((rest.rows ≡ []) × (rest.columns ≡ []))

-- without any one of its lines with smaller numbers, the set is series-parallel
abbrev pub AreNeededBefore : Bool → Matrix → ℕ → (rows columns : List ℕ) → Type 0
AreNeededBefore binary m next rows columns =
    (n : ℕ) → n < next → HasLine rows columns (line_numbered (height m) n)
    → IsSeriesParallelOn binary (entry m) (rows_without rows (line_numbered (height m) n)) (columns_without columns (line_numbered (height m) n))

-- The search has tried the lines before `next`, and these rows and columns remain. The greedy set of the remaining lines is that of all lines.
pub record IsGreedySearch (binary : Bool) (m : Matrix) (next : ℕ) (rows columns : List ℕ) : Type 0 where
  pub in_range : next ≤ height m + m.width
  pub row_set : IsRowSet m rows
  pub column_set : IsColumnSet m columns
  pub lacks : ¬ IsSeriesParallelOn binary (entry m) rows columns
  pub needed : AreNeededBefore binary m next rows columns
  pub answer : (rows' columns' : List ℕ) → IsGreedyFrom (IsSeriesParallel binary) m (lines_between (height m) next (height m + m.width - next)) rows columns rows' columns'
      → IsGreedySet (IsSeriesParallel binary) m rows' columns'
