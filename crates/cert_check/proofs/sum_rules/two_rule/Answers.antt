use Rattle.std.proofs.Common.{not}
use Rattle.cmr_base.specs.Matrix.{height}
use Rattle.cmr_base.proofs.Places.{contained_below}
use Rattle.tree_type.specs.Sides.{is_among}
use Rattle.cert_check.proofs.SumRules.{side_lines, sides_are}
use Rattle.cert_check.proofs.sum_rules.two_rule.Goals as goal

pub two_rule_on-requires-clause-one : goal.two_rule_on-requires-clause-one
two_rule_on-requires-clause-one c =
    side_lines c.args.matrix.now c.args.lines.now c.in_ok-one.one (is_among c.args.two.now.side.rows) (is_among c.args.two.now.side.columns) c.requires.lines c.in_ok-one.ensures.rows c.in_ok-one.ensures.columns

pub two_rule_on-requires-clause-other : goal.two_rule_on-requires-clause-other
two_rule_on-requires-clause-other c =
    side_lines c.args.matrix.now c.args.lines.now c.in_ok-other.other (λ line. not (is_among c.args.two.now.side.rows line)) (λ line. not (is_among c.args.two.now.side.columns line)) c.requires.lines c.in_ok-other.ensures.rows c.in_ok-other.ensures.columns

pub returns : goal.returns
returns c =
    c.two_rule_on.ensures c.args.lines.now
    (sides_are c.args.lines.now c.args.two.now.side c.in_ok-one.one c.in_ok-other.other c.in_ok-one.ensures.rows c.in_ok-one.ensures.columns c.in_ok-other.ensures.rows c.in_ok-other.ensures.columns)

pub two_rule_on-requires-clause-row : goal.two_rule_on-requires-clause-row
two_rule_on-requires-clause-row c = contained_below (height c.args.matrix.now) c.args.lines.now.rows c.args.two.now.row c.requires.lines.rows.in_range c.requires.row

pub two_rule_on-requires-clause-column : goal.two_rule_on-requires-clause-column
two_rule_on-requires-clause-column c = contained_below c.args.matrix.now.width c.args.lines.now.columns c.args.two.now.column c.requires.lines.columns.in_range c.requires.column
