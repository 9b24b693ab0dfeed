use Rattle.cmr_base.specs.Matrix.{entry}
use Rattle.cert_check.specs.SideLines.{sides_from}
use Rattle.cert_check.proofs.SumRules.{made_blocks}
use Rattle.cert_check.proofs.sum_rules.are_three_blocks.Goals as goal

pub returns-in-Delta : goal.returns-in-Delta
returns-in-Delta c = made_blocks (entry c.args.matrix.now) (sides_from c.args.one.now c.args.other.now) c.args.three.now c.are_made_blocks.result c.in-Delta.is c.are_made_blocks.ensures
