use Rattle.std.proofs.Common.{rules, ◌∙◌, sym, subst}
use Rattle.std.proofs.lemmas.Bool.{true≢false}
use Rattle.tree_type.specs.declared.refusal.Rule.TheVariants as rule
use Rattle.tree_type.specs.DecompositionTrees.{tree_of}
use Rattle.tree_type.specs.Soundness.{HasItsLines}
use Rattle.cert_check.specs.Answers.{due_from, IsOwnRule, IsRuleAt, KeepsOwn}
use Rattle.cert_check.proofs.Answering.{own_refused, below_pivot_decides, own_stays, lines_at, sizes_due, lines_is}
use Rattle.cert_check.proofs.check_tree.rule_at.Goals as goal

pub returns-clause-rule : goal.returns-clause-rule
returns-clause-rule c =
    let m = c.args.matrix.now in
    let tree = tree_of c.args.child.now in
    let due = due_from c.args.due.now in
    let has = subst (HasItsLines due) (sym (lines_is c.args.child.now)) (c.has_lines.ensures.0 (search rules)) in
    subst (IsRuleAt m c.args.pivoted due tree) (sym c.unless.ensures)
    (below_pivot_decides m c.args.pivoted due tree (λ root pivots after. sizes_due c.args.due.now root) has c.is_allowed.result c.is_allowed.ensures (subst (IsOwnRule m tree) c.in_default.is c.in_ok-rule.ensures))

pub returns-clause-own : goal.returns-clause-own
returns-clause-own c =
    let m = c.args.matrix.now in
    let tree = tree_of c.args.child.now in
    subst (KeepsOwn m tree) (sym c.unless.ensures) (own_stays m tree c.is_allowed.result rule.BelowPivot (subst (IsOwnRule m tree) c.in_default.is c.in_ok-rule.ensures))

pub returns-in-Some-clause-rule : goal.returns-in-Some-clause-rule
returns-in-Some-clause-rule c =
    let m = c.args.matrix.now in
    let tree = tree_of c.args.child.now in
    let due = due_from c.args.due.now in
    let has = subst (HasItsLines due) (sym (lines_is c.args.child.now)) (c.has_lines.ensures.0 (search rules)) in
    own_refused m c.args.pivoted due tree (λ root pivots after. sizes_due c.args.due.now root) has c.in-Some.rule (subst (IsOwnRule m tree) c.in-Some.is c.in_ok-rule.ensures)

pub returns-then-not-has_lines-clause-rule : goal.returns-then-not-has_lines-clause-rule
returns-then-not-has_lines-clause-rule c =
    let due = due_from c.args.due.now in
    lines_at c.args.matrix.now c.args.pivoted due (tree_of c.args.child.now) (λ root pivots after. sizes_due c.args.due.now root)
    (λ has. let e = c.has_lines.ensures.1 (subst (HasItsLines due) (lines_is c.args.child.now) has) in true≢false (sym e ∙ c.if-not-has_lines.true))
