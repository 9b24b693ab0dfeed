use Rattle.std.proofs.Common.{rules, sym, subst}
use Rattle.tree_type.specs.DecompositionTrees.{TwoSum}
use Rattle.cert_check.specs.Answers.{Says}
use Rattle.cert_check.specs.SideLines.{sides_from}
use Rattle.cert_check.proofs.SumRules.{two_says}
use Rattle.cert_check.proofs.sum_rules.two_rule_on.Goals as goal

pub returns : goal.returns
returns c lines e =
    subst (Says c.args.matrix.now lines (TwoSum c.args.two.now)) (sym c.unless.ensures)
    (two_says c.args.matrix.now lines c.args.two.now (sides_from c.args.one.now c.args.other.now) c.are_two_blocks.result e (c.have_lines.ensures.0 (search rules)) (c.is_reference.ensures.0 (search rules)) c.are_two_blocks.ensures)
