use Rattle.std.proofs.Common.{rules, sym, subst}
use Rattle.tree_type.specs.DecompositionTrees.{Pivoted}
use Rattle.cert_check.specs.Answers.{Says}
use Rattle.cert_check.proofs.OwnRules.{pivot_says}
use Rattle.cert_check.proofs.pivot_rule.pivot_rule.Goals as goal

pub returns : goal.returns
returns c =
    subst (Says c.args.matrix.now c.args.lines.now (Pivoted c.args.place)) (sym c.unless.ensures)
    (pivot_says c.args.matrix.now c.args.lines.now c.args.place c.in_ok-is_ternary_pivot.field-0 (search rules) c.in_ok-is_ternary_pivot.ensures)
