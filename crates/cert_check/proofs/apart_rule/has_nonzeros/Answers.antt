use Rattle.cmr_base.specs.Matrix.{entry}
use Rattle.cert_check.specs.NodeLines.{line_sets}
use Rattle.cert_check.proofs.ApartRules.{inside_test}
use Rattle.cert_check.proofs.apart_rule.has_nonzeros.Goals as goal

pub returns : goal.returns
returns c = inside_test (entry c.args.matrix.now) (line_sets c.args.children.now) c.args.row c.columns_beside.result.now c.args.columns.now c.are_inside.result c.columns_beside.ensures c.are_inside.ensures
