use Rattle.std.proofs.Common.{arith}
use Rattle.core_parts.proofs.DenseValues.{dense_is}
use Rattle.core_parts.proofs.dense_matrices.dense.Goals as goal

pub returns : goal.returns
returns c = dense_is c.args.sparse.now c.loop-row.matrix c.loop-row.row c.rows.ensures.shape c.rows-height.ensures.shape
    (let size = c.rows-row-end.ensures.rows in let last = c.loop-row-test.false in omega (arith, size, last)) c.loop-row.invariant
