-- The matrix of runs of nonzeros.
use Rattle.std.specs.Prelude.{◌≡◌, ℕ}
use Rattle.cmr_base.specs.Matrix.{entry, IsTernary}
use Rattle.sparse_matrix.specs.SparseRows.{SparseRows, AreSparseRows, matrix_of_runs, sparse_entry}

-- its entries are -1, 0 and 1
abbrev pub RunsMakeTernaryMatrices : Type 0
RunsMakeTernaryMatrices = (m : SparseRows) → AreSparseRows m → IsTernary (matrix_of_runs m)

-- its entries are the values in the runs
abbrev pub RunsMakeEntries : Type 0
RunsMakeEntries = (m : SparseRows) → AreSparseRows m → (row column : ℕ) → entry (matrix_of_runs m) row column ≡ sparse_entry m row column
