-- Matrices by the nonzeros of their rows.
use Rattle.std.specs.Prelude.{◌≡◌, ◌≢◌, ◌<◌, ◌≤◌, ◌==◌, if◌then◌else◌, ◌++◌, ℕ, ℤ, pos, List, [], ◌∷◌, length, map, slice_index_or, slice_set}
use Rattle.std.specs.List.{AllByRecursion}
use Rattle.cmr_base.specs.Matrix.{Matrix}
use Rattle.cmr_base.specs.LineSets.{first_lines}
use Rattle.cmr_base.specs.Signing.{IsSign}
use Rattle.sparse_matrix.specs.declared.nonzero.Nonzero.{Nonzero}
use Rattle.sparse_matrix.specs.declared.nonzero.TheConstants.{MAX_SPARSE_LINES}

-- the nonzeros of each row, and the number of columns
pub record SparseRows : Type 0 where
  pub runs : List (List Nonzero)
  pub width : ℕ

abbrev pub run_of : SparseRows → ℕ → List Nonzero
run_of m row = slice_index_or m.runs row []

-- the value of the first nonzero in a column, or 0
abbrev pub value_in : List Nonzero → ℕ → ℤ
value_in [] column = pos 0
value_in (x ∷ run) column = if x.line == column then x.value else value_in run column

abbrev pub sparse_entry : SparseRows → ℕ → ℕ → ℤ
sparse_entry m row column = value_in (run_of m row) column

-- the matrix with these entries
abbrev pub matrix_of_runs : SparseRows → Matrix
matrix_of_runs m = record { rows = map (λ run. map (value_in run) (first_lines m.width)) m.runs; width = m.width }

-- a nonzero within the width
pub record IsNonzeroWithin (width : ℕ) (x : Nonzero) : Type 0 where
  pub inside : x.line < width
  pub sign : IsSign x.value

-- no two nonzeros are in one line
abbrev pub AreInDistinctLines : List Nonzero → Type 0
AreInDistinctLines [] = Unit {0}
AreInDistinctLines (x ∷ run) = AllByRecursion (λ y. x.line ≢ y.line) run × AreInDistinctLines run

pub record AreSparseRows (m : SparseRows) : Type 0 where
  pub rows_in : length m.runs ≤ MAX_SPARSE_LINES
  pub columns_in : m.width ≤ MAX_SPARSE_LINES
  pub runs_in : AllByRecursion (AllByRecursion (IsNonzeroWithin m.width)) m.runs
  pub distinct : AllByRecursion AreInDistinctLines m.runs

-- with one more nonzero at the end of a row
abbrev pub with_nonzero : SparseRows → ℕ → Nonzero → SparseRows
with_nonzero m row x = record { runs = slice_set m.runs row (run_of m row ++ x ∷ []); width = m.width }

-- each entry of the first is an entry of the second, with row and column exchanged
pub record AreCrossed (m t : SparseRows) : Type 0 where
  pub rows : length t.runs ≡ m.width
  pub columns : t.width ≡ length m.runs
  pub entries : (row column : ℕ) → sparse_entry t column row ≡ sparse_entry m row column
