use Rattle.std.proofs.Common.{arith}
use Rattle.cmr_base.proofs.CopiedRows.{all_rows_copied}
use Rattle.cmr_base.proofs.matrix.Matrix.part_by_nonzeros.Goals as goal

pub returns : goal.returns
returns c =
    all_rows_copied c.args.self.now c.args.rows.now c.args.columns.now c.loop-place.part c.loop-place.place c.columns.ensures.shape c.loop-place.invariant (omega (arith, c.loop-place-test.false))
