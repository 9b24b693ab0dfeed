use Rattle.std.proofs.Common.{◌≡◌, ℕ, [], length, take}
use Rattle.sparse_matrix.specs.SparseRows.{SparseRows, sparse_entry, value_in}
use Rattle.sparse_matrix.specs.PartTransposed.{IsTransposedTo}
use Rattle.sparse_matrix.proofs.matrix.push_row.Given as goal

abbrev pub invariant-loop-nonzero : goal.invariant-loop-nonzero
invariant-loop-nonzero l = (length l.other.runs ≡ length l.fn.other.runs) × (l.other.width ≡ l.fn.other.width)
    × ((m : SparseRows) → IsTransposedTo m l.row [] l.fn.other → IsTransposedTo m l.row (take l.nonzero-index l.run) l.other)
    × ((column : ℕ) → sparse_entry l.other column l.row ≡ value_in (take l.nonzero-index l.run) column)
