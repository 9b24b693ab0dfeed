use Rattle.std.proofs.Common.{arith}
use Rattle.cmr_base.proofs.Lists.{all_at}
use Rattle.sparse_matrix.specs.SparseRows.{IsNonzeroWithin}
use Rattle.sparse_matrix.proofs.MarkedLines.{no_nonzero}
use Rattle.core_parts.proofs.DenseValues.{values_more}
use Rattle.core_parts.proofs.dense_matrices.write_run.Goals as goal

pub loop-nonzero-preserved : goal.loop-nonzero-preserved
loop-nonzero-preserved c =
    let before = c.args.matrix.now in
    let run = c.args.run.now in
    let place = c.loop-nonzero.nonzero-index in
    let has = c.loop-nonzero.invariant in
    let below = c.loop-nonzero-test.true in
    values_more before c.loop-nonzero.matrix c.args.row place before.width run below c.requires.run c.set.new.self c.rows-height.ensures.shape has c.requires.distinct
    (let row = c.requires.row in let same = has.rows in omega (arith, row, same))
    (let inside = (all_at (IsNonzeroWithin before.width) run place no_nonzero c.requires.run below).inside in let same = has.width in omega (arith, inside, same)) c.set.ensures
