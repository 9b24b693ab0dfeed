-- The answer of `pivot`: the matrix after the pivot, or a violator if the pivot has a 2 or a -2.
use Rattle.std.specs.Prelude.{◌≡◌, ◌<◌, ℕ, List}
use Rattle.cmr_base.specs.Matrix.{Matrix, height, entry, IsEntry}
use Rattle.cmr_base.specs.Violator.{IsViolator}
use Rattle.ghouila.specs.PivotLaws.{pivot_at}
use Rattle.pivots.specs.declared.matrix_pivot.Pivoted.{Pivoted}
use Rattle.pivots.specs.declared.matrix_pivot.Pivoted.TheVariants.{Ternary, Violated}
use Rattle.pivots.specs.ChosenLines.{two_lines}

-- The first entry of the pivot, row by row, that is not -1, 0 or 1. Its lines and those of the pivot are a violator of the matrix.
pub record ShowsFirstTwo (m : Matrix) (row column : ℕ) (rows columns : List ℕ) : Type 0 where
  pub other_row : ℕ
  pub other_column : ℕ
  pub row_in : other_row < height m
  pub column_in : other_column < m.width
  pub two : ¬ (IsEntry (entry (pivot_at m row column) other_row other_column))
  pub rows_before : (i j : ℕ) → i < other_row → j < m.width → IsEntry (entry (pivot_at m row column) i j)
  pub columns_before : (j : ℕ) → j < other_column → IsEntry (entry (pivot_at m row column) other_row j)
  pub rows_are : rows ≡ two_lines row other_row
  pub columns_are : columns ≡ two_lines column other_column
  pub violator : IsViolator (entry m) rows columns

-- the answer is correct
abbrev pub IsPivoted : Matrix → ℕ → ℕ → Pivoted → Type 0
IsPivoted m row column (Ternary after) = after ≡ pivot_at m row column
IsPivoted m row column (Violated lines) = ShowsFirstTwo m row column lines.rows lines.columns
