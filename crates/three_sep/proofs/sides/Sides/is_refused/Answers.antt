use Rattle.std.proofs.Common.{◌∷◌, subst}
use Rattle.line_growth.specs.declared.rule.GrowthRule.{GrowthRule}
use Rattle.line_growth.specs.GrowingSets.{HasNoLeaving}
use Rattle.line_growth.proofs.SetSteps.{decided_no}
use Rattle.three_sep.proofs.SideLemmas.{none_refused}
use Rattle.three_sep.proofs.sides.Sides.is_refused.Goals as goal

pub leaves_with-requires-2-clause-rule : goal.leaves_with-requires-2-clause-rule
leaves_with-requires-2-clause-rule c = rw (c.in_ok-leaves_with.ensures.kept.matrix, c.exchanged.ensures) (record { upper = c.requires.rule.lower; lower = c.requires.rule.upper })

pub leaves_with-requires-2-clause-first : goal.leaves_with-requires-2-clause-first
leaves_with-requires-2-clause-first c = rw c.in_ok-leaves_with.ensures.kept.matrix c.requires.second

pub leaves_with-requires-2-clause-second : goal.leaves_with-requires-2-clause-second
leaves_with-requires-2-clause-second c = rw c.in_ok-leaves_with.ensures.kept.matrix c.requires.first

pub leaves_with-requires-2-clause-line : goal.leaves_with-requires-2-clause-line
leaves_with-requires-2-clause-line c = rw c.in_ok-leaves_with.ensures.kept.matrix c.requires.line

pub returns-clause-none : goal.returns-clause-none
returns-clause-none c = λ e.
    let m = c.args.self.now.matrix.now in
    let rule = c.args.rule in
    let first = c.args.first.now in
    let second = c.args.second.now in
    let line = c.args.line in
    let other = rw c.in_ok-leaves_with.ensures.kept.matrix at c.in_ok-leaves_with-2.ensures.decided in
    none_refused m rule first second line (decided_no m rule (line ∷ first) second 4 c.in_ok-leaves_with.field-0 _ c.in_ok-leaves_with.ensures.decided c.if-branch.false)
    (subst (λ (r : GrowthRule). HasNoLeaving m r (line ∷ second) first 4) c.exchanged.ensures (decided_no m c.exchanged.result (line ∷ second) first 4 c.in_ok-leaves_with-2.field-0 _ other c.if-branch-2.false))
