use Rattle.std.proofs.Common.{◌≡◌, drop}
use Rattle.sparse_matrix.specs.SparseRows.{value_in}
use Rattle.sparse_text.proofs.named.has_nonzero.Given as goal

abbrev pub invariant-loop-nonzero : goal.invariant-loop-nonzero
invariant-loop-nonzero l = value_in (drop l.nonzero-index l.run) l.column ≡ value_in l.run l.column
