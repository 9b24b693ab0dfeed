use Rattle.std.proofs.Common.{◌+◌, ◌∙◌, ◌∷◌, [], ℕ, ap, get_or, subst}
use Rattle.std.specs.List.{AllByRecursion}
use Rattle.cmr_base.specs.declared.line.Line.TheVariants.{Row}
use Rattle.cmr_base.proofs.Booleans.{not_is}
use Rattle.line_growth.specs.declared.rule.GrowthRule.{GrowthRule}
use Rattle.line_growth.specs.GrowingSets.{DecidesLeaving, set_of}
use Rattle.line_growth.specs.Rules.{exchanged, lower_of, upper_of}
use Rattle.line_growth.proofs.SetSteps.{decided_no}
use Rattle.two_sep.specs.FirstSeeds.{seed_rule}
use Rattle.two_sep.specs.LinkedLines.{HasLabel}
use Rattle.two_sep.proofs.LinkedSteps.{none_by_column, none_by_row}
use Rattle.two_sep.proofs.linked_lines.LinkedLines.show_none.Goals as goal

pub returns-then-left-clause-none : goal.returns-then-left-clause-none
returns-then-left-clause-none c = λ e.
    let m = c.args.matrix.now in
    let i = c.args.row in
    let j = c.args.column in
    let labels = c.args.labels.now in
    let rule = c.exchanged-exchanged.result in
    let from = c.in_ok-start_with_label.ensures.grows in
    let after = set_of c.close.new.self in
    let leaves = c.in_ok-leaves.leaves in
    let grown = from.grows (upper_of m rule) (lower_of m rule) in
    let decided = subst (λ (r : GrowthRule). DecidesLeaving m r from.start [] 2 leaves after) (c.exchanged-exchanged.ensures ∙ ap exchanged c.rule_at-rule.ensures) (c.in_ok-leaves.ensures.closed from.start grown) in
    none_by_row m i j c.requires.row c.requires.column c.requires.nonzero labels c.requires.linked from.start from.labelled
    (decided_no m (exchanged (seed_rule i j)) from.start [] 2 leaves after decided (not_is leaves e))

pub returns-clause-none : goal.returns-clause-none
returns-clause-none c = λ e.
    let m = c.args.matrix.now in
    let i = c.args.row in
    let j = c.args.column in
    let labels = c.args.labels.now in
    let rule = c.rule_at-rule.result in
    let from = c.in_ok-start_with_label-2.ensures.grows in
    let after = set_of c.close-2.new.self in
    let leaves = c.in_ok-leaves-2.leaves in
    let grown = from.grows (upper_of m rule) (lower_of m rule) in
    let decided = subst (λ (r : GrowthRule). DecidesLeaving m r from.start (Row i ∷ []) 2 leaves after) c.rule_at-rule.ensures (c.in_ok-leaves-2.ensures.closed from.start grown) in
    none_by_column m i j c.requires.row c.requires.column c.requires.nonzero labels c.requires.linked from.start
    (subst (λ (k : ℕ). AllByRecursion (HasLabel m labels (get_or labels (k + j) 0)) from.start) c.rows-rows.ensures.rows from.labelled)
    (decided_no m (seed_rule i j) from.start (Row i ∷ []) 2 leaves after decided (not_is leaves e))
