-- The positions that are named: those of the first nonzeros of each row, and others in a set, as 2^32 times the row plus the column.
use Rattle.std.specs.Prelude.{◌≡◌, ◌<◌, ◌+◌, ◌*◌, ◌^◌, ◌==◌, ◌&&◌, ◌||◌, ℕ, Bool, take}
use Rattle.std.specs.BTreeSet.{BTreeSet, contains}
use Rattle.std.specs.Ordering.{nat_cmp}
use Rattle.cmr_base.specs.Matrix.{is_nonzero}
use Rattle.sparse_matrix.specs.SparseRows.{SparseRows, run_of, value_in}
use Rattle.sparse_text.specs.declared.named.TheConstants.{SCANNED}

abbrev pub is_scanned : SparseRows → ℕ → ℕ → Bool
is_scanned m row column = is_nonzero (value_in (take SCANNED (run_of m row)) column)

abbrev pub has_position : SparseRows → BTreeSet ℕ → ℕ → ℕ → Bool
has_position m others row column = is_scanned m row column || contains nat_cmp others (row * 2 ^ 32 + column)

-- one more position is named
abbrev pub HasNewPosition : ℕ → ℕ → SparseRows → BTreeSet ℕ → SparseRows → BTreeSet ℕ → Type 0
HasNewPosition at_row at_column m others next next_others =
    (row column : ℕ) → column < 2 ^ 32 → has_position next next_others row column ≡ (((at_row == row) && (at_column == column)) || has_position m others row column)
