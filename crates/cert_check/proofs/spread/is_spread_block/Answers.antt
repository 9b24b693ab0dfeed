use Rattle.std.proofs.Common.{refl}
use Rattle.cmr_base.specs.Matrix.{entry}
use Rattle.cmr_base.specs.Separations.{spread_at}
use Rattle.cert_check.proofs.SumRules.{entries_tested}
use Rattle.cert_check.proofs.spread.is_spread_block.Goals as goal

pub returns : goal.returns
returns c =
    let made = spread_at (entry c.args.matrix.now) c.args.first c.args.second in
    entries_tested (entry c.args.matrix.now) c.as_slice.result.now c.args.rows.now c.as_slice-2.result.now c.args.columns.now made made c.are_spread_rows.result c.as_slice.ensures.items c.as_slice-2.ensures.items (λ row column. refl) c.are_spread_rows.ensures
