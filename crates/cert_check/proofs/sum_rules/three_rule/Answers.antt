use Rattle.std.proofs.Common.{not}
use Rattle.cmr_base.specs.Separations.{first_is_flat, second_is_flat}
use Rattle.tree_type.specs.Sides.{is_among}
use Rattle.cert_check.proofs.SumRules.{side_lines, sides_are, connector_in}
use Rattle.cert_check.proofs.sum_rules.three_rule.Goals as goal

pub three_rule_on-requires-clause-one : goal.three_rule_on-requires-clause-one
three_rule_on-requires-clause-one c =
    side_lines c.args.matrix.now c.args.lines.now c.in_ok-one.one (is_among c.args.three.now.side.rows) (is_among c.args.three.now.side.columns) c.requires.lines c.in_ok-one.ensures.rows c.in_ok-one.ensures.columns

pub three_rule_on-requires-clause-other : goal.three_rule_on-requires-clause-other
three_rule_on-requires-clause-other c =
    side_lines c.args.matrix.now c.args.lines.now c.in_ok-other.other (λ line. not (is_among c.args.three.now.side.rows line)) (λ line. not (is_among c.args.three.now.side.columns line)) c.requires.lines c.in_ok-other.ensures.rows c.in_ok-other.ensures.columns

pub returns : goal.returns
returns c =
    c.three_rule_on.ensures c.args.lines.now
    (sides_are c.args.lines.now c.args.three.now.side c.in_ok-one.one c.in_ok-other.other c.in_ok-one.ensures.rows c.in_ok-one.ensures.columns c.in_ok-other.ensures.rows c.in_ok-other.ensures.columns)

pub three_rule_on-requires-clause-first : goal.three_rule_on-requires-clause-first
three_rule_on-requires-clause-first c = connector_in c.args.matrix.now c.args.lines.now (first_is_flat c.args.three.now.form) c.args.three.now.first c.requires.lines c.requires.first

pub three_rule_on-requires-clause-second : goal.three_rule_on-requires-clause-second
three_rule_on-requires-clause-second c = connector_in c.args.matrix.now c.args.lines.now (second_is_flat c.args.three.now.form) c.args.three.now.second c.requires.lines c.requires.second
