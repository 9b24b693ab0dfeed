use Rattle.std.proofs.Common.{◌<◌, ℕ}
use Rattle.sparse_matrix.specs.SparseRows.{sparse_entry}
use Rattle.part_numbers.specs.PartNumbering.{IsRowTogether}
use Rattle.large_evidence.proofs.numbering.are_together.Given as goal

abbrev pub invariant-loop-row : goal.invariant-loop-row
invariant-loop-row l = (row : ℕ) → row < l.row → IsRowTogether (sparse_entry l.rows) l.left.rows.items l.left.columns.items l.of_rows l.of_columns row
