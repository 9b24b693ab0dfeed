use Rattle.std.proofs.Common.{arith, ap, length}
use Rattle.cmr_base.specs.Matrix.{height}
use Rattle.cmr_base.proofs.Parts.{length-increasing}
use Rattle.cmr_base.proofs.matrix.Matrix.sum.Goals as goal

pub prove-unreachable-requires : goal.prove-unreachable-requires
prove-unreachable-requires c =
    omega (arith, length-increasing c.args.lines.now.rows (height c.args.self.now) c.as_slice-rows.ensures.increasing c.requires.rows, ap length c.as_slice-rows.ensures.items)

pub prove-unreachable-requires-2 : goal.prove-unreachable-requires-2
prove-unreachable-requires-2 c =
    omega (arith, length-increasing c.args.lines.now.columns c.args.self.now.width c.as_slice-columns.ensures.increasing c.requires.columns, ap length c.as_slice-columns.ensures.items)

pub sum_on-requires-clause-few_rows : goal.sum_on-requires-clause-few_rows
sum_on-requires-clause-few_rows c =
    omega (arith, length-increasing c.args.lines.now.rows (height c.args.self.now) c.as_slice-rows.ensures.increasing c.requires.rows, ap length c.as_slice-rows.ensures.items, c.rows.ensures.shape.height_in)

pub sum_on-requires-clause-few_columns : goal.sum_on-requires-clause-few_columns
sum_on-requires-clause-few_columns c =
    omega (arith, length-increasing c.args.lines.now.columns c.args.self.now.width c.as_slice-columns.ensures.increasing c.requires.columns, ap length c.as_slice-columns.ensures.items, c.rows.ensures.shape.width_in)
