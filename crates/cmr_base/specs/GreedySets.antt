-- Minimal sets of lines that lack a property.
use Rattle.std.specs.Prelude.{◌≡◌, ◌⊎◌, ℕ, List, [], ◌∷◌}
use Rattle.cmr_base.specs.declared.line.Line.{Line}
use Rattle.cmr_base.specs.Matrix.{Matrix, height, IsTernary}
use Rattle.cmr_base.specs.LineSets.{IsRowSet, IsColumnSet, first_lines, submatrix}
use Rattle.cmr_base.specs.Reductions.{HasLine, rows_without, columns_without, lines_of}

-- each submatrix of a matrix with the property also has it, for matrices with entries -1, 0 and 1
abbrev pub IsHereditary : (Matrix → Type 0) → Type 0
IsHereditary P = (m : Matrix) → IsTernary m → (rows columns : List ℕ) → IsRowSet m rows → IsColumnSet m columns → P m → P (submatrix m rows columns)

-- The lines are tested once, one after another. A line is removed if the submatrix on the remaining lines still lacks the property.
-- The result is the remaining rows and columns.
abbrev pub IsGreedyFrom : (Matrix → Type 0) → Matrix → List Line → List ℕ → List ℕ → List ℕ → List ℕ → Type 0
IsGreedyFrom P m [] rows columns rows' columns' = (rows' ≡ rows) × (columns' ≡ columns)
IsGreedyFrom P m (line ∷ lines) rows columns rows' columns' =
    (P (submatrix m (rows_without rows line) (columns_without columns line)) × IsGreedyFrom P m lines rows columns rows' columns')
    ⊎ ((¬ P (submatrix m (rows_without rows line) (columns_without columns line))) × IsGreedyFrom P m lines (rows_without rows line) (columns_without columns line) rows' columns')

-- the greedy set for a property: all lines are tested, rows first
abbrev pub IsGreedySet : (Matrix → Type 0) → Matrix → List ℕ → List ℕ → Type 0
IsGreedySet P m rows columns =
    IsGreedyFrom P m (lines_of (first_lines (height m)) (first_lines m.width)) (first_lines (height m)) (first_lines m.width) rows columns

-- the submatrix on these lines lacks the property, and has it if any one line is removed
pub record IsMinimalWithout (P : Matrix → Type 0) (m : Matrix) (rows columns : List ℕ) : Type 0 where
  pub row_set : IsRowSet m rows
  pub column_set : IsColumnSet m columns
  pub lacks : ¬ P (submatrix m rows columns)
  pub minimal : (line : Line) → HasLine rows columns line → P (submatrix m (rows_without rows line) (columns_without columns line))
