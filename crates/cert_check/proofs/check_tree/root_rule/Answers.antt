use Rattle.std.proofs.Common.{rules, ◌∙◌, false, ap, sym, subst}
use Rattle.std.proofs.lemmas.Bool.{true≢false}
use Rattle.cmr_base.specs.LineSets.{first_lines}
use Rattle.tree_type.specs.DecompositionTrees.{tree_of, finding_of}
use Rattle.tree_type.specs.Places.{AllLines}
use Rattle.tree_type.specs.Soundness.{HasItsLines}
use Rattle.cert_check.specs.Answers.{IsOwnRule, IsRuleAt, KeepsOwn, IsValidNode}
use Rattle.cert_check.proofs.Answering.{if_ok, root_stands, root_sizes, root_may, other_sizes, own_rule_at, own_is_kept, lines_at, lines_is}
use Rattle.cert_check.proofs.check_tree.root_rule.Goals as goal

pub returns-clause-rule : goal.returns-clause-rule
returns-clause-rule c =
    let m = c.args.matrix.now in
    let tree = tree_of c.args.tree.now.root in
    let due = AllLines c.args.tree.now.rows c.args.tree.now.columns in
    let e = sym c.rows.ensures ∙ c.if-rows.false ∙ c.rows-2.ensures.rows in
    let f = sym c.columns.ensures ∙ c.if-columns.false ∙ c.columns-2.ensures.columns in
    let same = c.same_lines.ensures.0 (search rules) in
    let has = subst (HasItsLines due) (ap (λ node. node.lines) c.root-root.ensures.root ∙ sym (lines_is c.args.tree.now.root))
    (same.0 ∙ c.in_ok-all.ensures.rows ∙ ap first_lines (c.rows-3.ensures.rows ∙ sym e), same.1 ∙ c.in_ok-all.ensures.columns ∙ ap first_lines (c.columns-3.ensures.columns ∙ sym f)) in
    if_ok (IsOwnRule m (tree_of c.root-root.result.now)) (IsRuleAt m false due tree)
    (λ answer h. own_rule_at m false due tree (root_sizes m c.args.tree.now.rows c.args.tree.now.columns e f) has (root_may (finding_of tree)) answer
    (subst (λ node. IsOwnRule m (tree_of node) answer) c.root-root.ensures.root h))
    c.own_rule.result c.own_rule.ensures

pub returns-clause-own : goal.returns-clause-own
returns-clause-own c =
    let m = c.args.matrix.now in
    if_ok (IsOwnRule m (tree_of c.root-root.result.now)) (KeepsOwn m (tree_of c.args.tree.now.root))
    (λ answer h. own_is_kept m (tree_of c.args.tree.now.root) answer (subst (λ node. IsOwnRule m (tree_of node) answer) c.root-root.ensures.root h))
    c.own_rule.result c.own_rule.ensures

pub returns-then-rows-clause-rule : goal.returns-then-rows-clause-rule
returns-then-rows-clause-rule c = other_sizes c.args.matrix.now c.args.tree.now.rows c.args.tree.now.columns (tree_of c.args.tree.now.root) (λ e f. c.if-rows.true (c.rows.ensures ∙ e ∙ sym c.rows-2.ensures.rows))

pub returns-then-columns-clause-rule : goal.returns-then-columns-clause-rule
returns-then-columns-clause-rule c = other_sizes c.args.matrix.now c.args.tree.now.rows c.args.tree.now.columns (tree_of c.args.tree.now.root) (λ e f. c.if-columns.true (c.columns.ensures ∙ f ∙ sym c.columns-2.ensures.columns))

pub returns-then-not-same_lines-clause-rule : goal.returns-then-not-same_lines-clause-rule
returns-then-not-same_lines-clause-rule c =
    let m = c.args.matrix.now in
    let due = AllLines c.args.tree.now.rows c.args.tree.now.columns in
    let e = sym c.rows.ensures ∙ c.if-rows.false ∙ c.rows-2.ensures.rows in
    let f = sym c.columns.ensures ∙ c.if-columns.false ∙ c.columns-2.ensures.columns in
    lines_at m false due (tree_of c.args.tree.now.root) (root_sizes m c.args.tree.now.rows c.args.tree.now.columns e f) (λ has.
    let there = subst (HasItsLines due) (lines_is c.args.tree.now.root ∙ sym (ap (λ node. node.lines) c.root-root.ensures.root)) has in
    let yes = c.same_lines.ensures.1 (there.0 ∙ sym (c.in_ok-all.ensures.rows ∙ ap first_lines (c.rows-3.ensures.rows ∙ sym e)), there.1 ∙ sym (c.in_ok-all.ensures.columns ∙ ap first_lines (c.columns-3.ensures.columns ∙ sym f))) in
    true≢false (sym yes ∙ c.if-not-same_lines.true))

pub own_rule-requires : goal.own_rule-requires
own_rule-requires c =
    let e = sym c.rows.ensures ∙ c.if-rows.false ∙ c.rows-2.ensures.rows in
    let f = sym c.columns.ensures ∙ c.if-columns.false ∙ c.columns-2.ensures.columns in
    subst (λ node. IsValidNode c.args.matrix.now (tree_of node)) (sym c.root-root.ensures.root) (root_stands c.args.matrix.now c.args.tree.now.rows c.args.tree.now.columns (tree_of c.args.tree.now.root) c.root-root.ensures.tree e f)
