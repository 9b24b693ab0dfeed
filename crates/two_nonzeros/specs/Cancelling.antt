-- Columns whose nonzeros cancel under signs of the rows.
use Rattle.std.specs.Prelude.{◌≡◌, if◌then◌else◌, ℕ, ℤ, pos, negsuc, ◌+ℤ◌, ◌*ℤ◌, Bool, false, List, [], ◌∷◌, slice_index_or}
use Rattle.cmr_base.specs.Matrix.{entry}
use Rattle.sparse_matrix.specs.declared.nonzero.Nonzero.{Nonzero}
use Rattle.sparse_matrix.specs.SparseRows.{SparseRows, matrix_of_runs}
use Rattle.split_laws.specs.SignSplits.{CancelsColumns}

-- the sign of a row, -1 if it is marked
abbrev pub sign_at : List Bool → ℕ → ℤ
sign_at minus row = if slice_index_or minus row false then negsuc 0 else pos 1

-- at most two nonzeros, and two cancel
abbrev pub Cancels : (ℕ → ℤ) → List Nonzero → Type 0
Cancels sign [] = Unit {0}
Cancels sign (x ∷ []) = Unit {0}
Cancels sign (x ∷ y ∷ []) = (sign x.line *ℤ x.value) +ℤ (sign y.line *ℤ y.value) ≡ pos 0
Cancels sign (x ∷ y ∷ z ∷ run) = ⊥

-- the marks split the rows
abbrev pub AreSplitBy : List Bool → SparseRows → Type 0
AreSplitBy minus m = CancelsColumns (entry (matrix_of_runs m)) (sign_at minus)
