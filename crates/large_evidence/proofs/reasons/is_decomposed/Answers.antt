use Rattle.std.proofs.Common.{rules}
use Rattle.sparse_matrix.specs.SparseRows.{matrix_of_runs}
use Rattle.large_evidence.proofs.TreesOfYes.{tree_of_yes}
use Rattle.large_evidence.proofs.reasons.is_decomposed.Goals as goal

pub returns : goal.returns
returns c = tree_of_yes (matrix_of_runs c.args.part.now) c.in_ok-matrix.matrix c.args.tree.now c.in_ok-accept.field-0 c.is_none.result c.in_ok-matrix.ensures c.rows-height.ensures.shape
    c.root-root.ensures.tree c.in_ok-accept.ensures (c.is_yes.ensures.0 (search rules)) c.is_none.ensures
