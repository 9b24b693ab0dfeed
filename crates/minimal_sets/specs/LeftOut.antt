-- Lines that are removed one after another.
use Rattle.std.specs.Prelude.{◌≡◌, ◌||◌, ◌+◌, ◌-◌, ℕ, Bool, cond, nat_lt, nat_le, List, [], ◌∷◌, map}
use Rattle.std.specs.List.{range_with_len}
use Rattle.cmr_base.specs.declared.line.Line.{Line}
use Rattle.cmr_base.specs.declared.line.Line.TheVariants.{Row, Column}
use Rattle.cmr_base.specs.declared.line_set.LineSet.{LineSet}
use Rattle.cmr_base.specs.Matrix.{Matrix, height}
use Rattle.cmr_base.specs.LineSets.{submatrix}
use Rattle.cmr_base.specs.Reductions.{rows_without, columns_without}

-- the line with a number: the columns are numbered after the rows
abbrev pub line_numbered : ℕ → ℕ → Line
line_numbered height number = cond (nat_lt number height) (Row number) (Column (number - height))

-- the `count` lines from a number on
abbrev pub lines_between : ℕ → ℕ → ℕ → List Line
lines_between height from count = map (line_numbered height) (range_with_len from count)

-- the remaining rows
abbrev pub rows_left : List ℕ → List Line → List ℕ
rows_left rows [] = rows
rows_left rows (line ∷ lines) = rows_left (rows_without rows line) lines

-- the remaining columns
abbrev pub columns_left : List ℕ → List Line → List ℕ
columns_left columns [] = columns
columns_left columns (line ∷ lines) = columns_left (columns_without columns line) lines

-- the submatrix that remains without the `count` lines from a number on
abbrev pub left_submatrix : Matrix → LineSet → ℕ → ℕ → Matrix
left_submatrix m lines from count =
    let gone = lines_between (height m) from count in
    submatrix m (rows_left lines.rows gone) (columns_left lines.columns gone)

-- `fewer` is the set without the `count` lines from a number on, and its submatrix lacks the property
pub record AreLeft (P : Matrix → Type 0) (m : Matrix) (lines : LineSet) (from count : ℕ) (fewer : LineSet) : Type 0 where
  pub rows : fewer.rows ≡ rows_left lines.rows (lines_between (height m) from count)
  pub columns : fewer.columns ≡ columns_left lines.columns (lines_between (height m) from count)
  pub lacks : ¬ P (left_submatrix m lines from count)

-- `before + number` is not one of the `count` numbers from `from` on
abbrev pub is_outside : ℕ → ℕ → ℕ → ℕ → Bool
is_outside before from count number = nat_lt (before + number) from || nat_le (from + count) (before + number)
