use Rattle.std.proofs.Common.{◌∙◌, ◌+◌, drop, sym, ap, subst}
use Rattle.std.proofs.lemmas.List.{drop_all}
use Rattle.cert_check.specs.NodeLines.{line_sets}
use Rattle.cert_check.proofs.Children.{child_first}
use Rattle.cert_check.proofs.ApartRules.{IsBeside, beside_here, beside_later, beside_none}
use Rattle.cert_check.proofs.apart_rule.columns_beside.Goals as goal

pub returns-then-has_line : goal.returns-then-has_line
returns-then-has_line c =
    let children = c.args.children.now in
    let i = c.loop-child.child-index in
    let child = c.child-item.result in
    beside_here (line_sets children) c.args.row child.lines (line_sets (drop (i + 1) children)) (sym c.has_line.ensures ∙ c.if-has_line.true)
    (subst (IsBeside (line_sets children) c.args.row) (ap line_sets (child_first children i child c.loop-child-test.true c.child-item.is)) c.loop-child.invariant)

pub loop-child-preserved : goal.loop-child-preserved
loop-child-preserved c =
    let children = c.args.children.now in
    let i = c.loop-child.child-index in
    let child = c.child-item.result in
    beside_later (line_sets children) c.args.row child.lines (line_sets (drop (i + 1) children)) (sym c.has_line.ensures ∙ c.if-has_line.false)
    (subst (IsBeside (line_sets children) c.args.row) (ap line_sets (child_first children i child c.loop-child-test.true c.child-item.is)) c.loop-child.invariant)

pub unreachable-requires : goal.unreachable-requires
unreachable-requires c =
    let children = c.args.children.now in
    beside_none (line_sets children) c.args.row (subst (IsBeside (line_sets children) c.args.row) (ap line_sets (drop_all c.loop-child.child-index children c.loop-child-test.false)) c.loop-child.invariant)
