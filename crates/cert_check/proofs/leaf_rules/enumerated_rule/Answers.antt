use Rattle.std.proofs.Common.{◌≤◌, length, sym, subst}
use Rattle.tree_type.specs.DecompositionTrees.{Enumerated}
use Rattle.cert_check.specs.Answers.{Says}
use Rattle.cert_check.proofs.OwnRules.{few_lines, part_sizes, enumerated_says}
use Rattle.cert_check.proofs.leaf_rules.enumerated_rule.Goals as goal

pub is_clean-requires : goal.is_clean-requires
is_clean-requires c =
    subst (λ n. n ≤ 24) (sym (part_sizes c.args.matrix.now c.args.lines.now c.in_ok-part.part c.in_ok-part.ensures)) (few_lines c.len.result c.len-2.result (length c.args.lines.now.rows) (length c.args.lines.now.columns) c.min.result c.len.ensures.len c.len-2.ensures.len c.min.ensures c.if-min.false)

pub returns : goal.returns
returns c =
    subst (Says c.args.matrix.now c.args.lines.now Enumerated) (sym c.unless.ensures)
    (enumerated_says c.args.matrix.now c.args.lines.now c.in_ok-part.part c.in_ok-is_clean.field-0 c.in_ok-part.ensures
    (few_lines c.len.result c.len-2.result (length c.args.lines.now.rows) (length c.args.lines.now.columns) c.min.result c.len.ensures.len c.len-2.ensures.len c.min.ensures c.if-min.false) c.in_ok-is_clean.ensures)
