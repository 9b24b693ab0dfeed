-- Determinants of square submatrices, and total unimodularity in terms of them.
use Rattle.std.specs.Prelude.{◌≡◌, ℕ, zero, suc, ℤ, pos, ◌-ℤ◌, ◌*ℤ◌, List, [], ◌∷◌, length, slice_index}
use Rattle.cmr_base.specs.Matrix.{Matrix, entry, IsEntry}
use Rattle.cmr_base.specs.LineSets.{IsRowSet, IsColumnSet}

-- f 0 - f 1 + f 2 - .., with the given number of terms
abbrev pub alternating_sum : ℕ → (ℕ → ℤ) → ℤ
alternating_sum zero f = pos 0
alternating_sum (suc count) f = f 0 -ℤ alternating_sum count (λ k. f (suc k))

-- the lines without the line at an index, counted from 0
abbrev pub without_place : List ℕ → ℕ → List ℕ
without_place [] place = []
without_place (line ∷ lines) zero = lines
without_place (line ∷ lines) (suc place) = line ∷ without_place lines place

-- the determinant of the submatrix on as many rows as columns, expanded along its first column (Laplace)
abbrev pub determinant : (ℕ → ℕ → ℤ) → List ℕ → List ℕ → ℤ
determinant M rows [] = pos 1
determinant M rows (column ∷ columns) = alternating_sum (length rows) (λ k. M (slice_index rows k) column *ℤ determinant M (without_place rows k) columns)

-- each square submatrix has the determinant -1, 0 or 1
abbrev pub HasUnimodularMinors : Matrix → Type 0
HasUnimodularMinors m = (rows columns : List ℕ) → IsRowSet m rows → IsColumnSet m columns → length rows ≡ length columns → IsEntry (determinant (entry m) rows columns)
