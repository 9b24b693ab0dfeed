use Rattle.std.proofs.Common.{arith, ap}
use Rattle.cmr_base.specs.Matrix.{height}
use Rattle.cmr_base.proofs.Parts.{height-transposed}
use Rattle.leaf_enumerate.proofs.search.least.Goals as goal

pub least_by_rows-requires-2-clause-few : goal.least_by_rows-requires-2-clause-few
least_by_rows-requires-2-clause-few g c κs within =
    omega (arith, ap height c.transposed.ensures, height-transposed c.args.matrix.now, c.requires.few, c.if-rows-columns.false, c.rows.ensures.rows, c.columns.ensures.columns)
