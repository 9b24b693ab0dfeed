use Rattle.std.proofs.Common.{pos, refl}
use Rattle.cmr_base.specs.Matrix.{entry}
use Rattle.cert_check.proofs.SumRules.{entries_tested}
use Rattle.cert_check.proofs.blocks.is_zero_block.Goals as goal

pub returns : goal.returns
returns c =
    entries_tested (entry c.args.matrix.now) c.as_slice.result.now c.args.rows.now c.as_slice-2.result.now c.args.columns.now (λ row column. pos 0) (λ row column. pos 0) c.are_zero_rows.result c.as_slice.ensures.items c.as_slice-2.ensures.items (λ row column. refl) c.are_zero_rows.ensures
