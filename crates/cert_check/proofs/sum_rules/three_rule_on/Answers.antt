use Rattle.std.proofs.Common.{rules, sym, subst}
use Rattle.tree_type.specs.DecompositionTrees.{ThreeSum}
use Rattle.cert_check.specs.Answers.{Says}
use Rattle.cert_check.specs.SideLines.{sides_from}
use Rattle.cert_check.proofs.SumRules.{three_says}
use Rattle.cert_check.proofs.sum_rules.three_rule_on.Goals as goal

pub returns : goal.returns
returns c lines e =
    subst (Says c.args.matrix.now lines (ThreeSum c.args.three.now)) (sym c.unless.ensures)
    (three_says c.args.matrix.now lines c.args.three.now (sides_from c.args.one.now c.args.other.now) c.are_three_blocks.result e (c.have_lines.ensures.0 (search rules)) (c.are_connectors.ensures.0 (search rules)) (c.have_corner_sign.ensures.0 (search rules)) c.are_three_blocks.ensures)
