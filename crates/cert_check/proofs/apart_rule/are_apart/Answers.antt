use Rattle.std.proofs.Common.{rules}
use Rattle.cmr_base.specs.Matrix.{entry}
use Rattle.cert_check.proofs.ApartRules.{apart_tested}
use Rattle.cert_check.proofs.apart_rule.are_apart.Goals as goal

pub returns : goal.returns
returns c = apart_tested (entry c.args.matrix.now) c.args.lines.now c.as_slice-rows.result.now c.as_slice-columns.result.now c.args.children.now c.have_nonzeros.result c.as_slice-rows.ensures.items c.as_slice-columns.ensures.items (search rules) (c.are_filled.ensures.0 (search rules)) (c.have_rows.ensures.0 (search rules)) (c.have_columns.ensures.0 (search rules)) c.have_nonzeros.ensures
