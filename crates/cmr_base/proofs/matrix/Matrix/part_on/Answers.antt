use Rattle.std.proofs.Common.{ap, length, arith}
use Rattle.cmr_base.specs.Matrix.{height}
use Rattle.cmr_base.proofs.Parts.{length-increasing}
use Rattle.cmr_base.proofs.matrix.Matrix.part_on.Goals as goal

pub prove-unreachable-requires : goal.prove-unreachable-requires
prove-unreachable-requires c =
    omega (arith, length-increasing c.args.rows.now (height c.args.self.now) c.as_slice-rows.ensures.increasing c.requires.rows, ap length c.as_slice-rows.ensures.items)

pub prove-unreachable-requires-2 : goal.prove-unreachable-requires-2
prove-unreachable-requires-2 c =
    omega (arith, length-increasing c.args.columns.now c.args.self.now.width c.as_slice-columns.ensures.increasing c.requires.columns, ap length c.as_slice-columns.ensures.items)
