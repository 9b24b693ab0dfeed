use Rattle.std.proofs.Common.{◌*ℤ◌}
use Rattle.cmr_base.specs.Matrix.{entry}
use Rattle.cmr_base.specs.Separations.{product_at}
use Rattle.cert_check.proofs.SumRules.{entries_tested, made_is}
use Rattle.cert_check.proofs.blocks.is_made_block.Goals as goal

pub returns : goal.returns
returns c =
    let M = entry c.args.matrix.now in
    entries_tested M c.as_slice.result.now c.args.rows.now c.as_slice-2.result.now c.args.columns.now (λ row column. (M row c.args.j *ℤ M c.args.i c.args.j) *ℤ M c.args.i column) (product_at M c.args.i c.args.j) c.are_made_rows.result c.as_slice.ensures.items c.as_slice-2.ensures.items
    (made_is M c.args.i c.args.j) c.are_made_rows.ensures
