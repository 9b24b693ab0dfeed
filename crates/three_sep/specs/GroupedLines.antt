-- Other columns of connectors, in a matrix or in its transposed matrix.
use Rattle.std.specs.Prelude.{◌≡◌, ◌≢◌, ◌+◌, ◌<◌, ℕ, pos, slice_index_or}
use Rattle.cmr_base.specs.Matrix.{entry}
use Rattle.three_sep.specs.declared.grouped_lines.GroupedLines.{GroupedLines}

-- if the column is 0 in one row and not in another, it is in the group of the other row
abbrev pub IsNoOther : GroupedLines → ℕ → ℕ → ℕ → Type 0
IsNoOther lines own across c =
    entry lines.matrix.now own c ≡ pos 0 → entry lines.matrix.now across c ≢ pos 0 → slice_index_or lines.groups.now.names.items (lines.columns_from + c) 0 ≡ slice_index_or lines.groups.now.names.items (lines.rows_from + across) 0

abbrev pub HasNoOther : GroupedLines → ℕ → ℕ → Type 0
HasNoOther lines own across = (c : ℕ) → c < lines.matrix.now.width → IsNoOther lines own across c
