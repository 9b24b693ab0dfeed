use Rattle.std.proofs.Common.{sym, subst}
use Rattle.tree_type.specs.DecompositionTrees.{R10}
use Rattle.cert_check.specs.Answers.{Says}
use Rattle.cert_check.proofs.OwnRules.{r10_says}
use Rattle.cert_check.proofs.leaf_rules.r10_rule.Goals as goal

pub returns-then-is_r10 : goal.returns-then-is_r10
returns-then-is_r10 c =
    subst (Says c.args.matrix.now c.args.lines.now R10) (sym c.unless.ensures)
    (r10_says c.args.matrix.now c.args.lines.now c.in_ok-part.part c.in_ok-has_no_fault.field-0 c.in_ok-part.ensures (c.is_r10.ensures.0 c.if-is_r10.true) c.in_ok-has_no_fault.ensures)
