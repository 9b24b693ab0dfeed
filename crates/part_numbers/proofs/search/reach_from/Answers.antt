use Rattle.std.proofs.Common.{◌∙◌, sym}
use Rattle.cmr_base.proofs.Booleans.{true_is_false}
use Rattle.part_numbers.proofs.ReachedLines.{grows_later, inseparable_from, new_with, reached_if_not_free, reached_with, reaches_one}
use Rattle.part_numbers.proofs.search.reach_from.Goals as goal

pub returns-then-not-is_free-clause-line : goal.returns-then-not-is_free-clause-line
returns-then-not-is_free-clause-line c = λ inside.
    reached_with c.args.rows.now c.args.core.now c.args.part c.args.search.now c.args._from c.args.line c.requires.grows c.requires.from c.requires.adjacent inside
    (reached_if_not_free c.args.core.now c.args.search.now c.args.line (λ free. true_is_false (sym (c.is_free.ensures.1 free) ∙ c.if-not-is_free.true)) inside)

pub returns-clause-grows : goal.returns-clause-grows
returns-clause-grows c =
    let free = c.is_free.ensures.0 c.if-not-is_free.false in
    grows_later c.args.rows.now c.args.core.now c.args.part c.args.search.now c.reach_line.new.search c.args.line c.requires.grows free
    c.in_ok-reach_line.ensures.sized c.in_ok-reach_line.ensures.reaches
    (inseparable_from c.args.rows.now c.args.core.now c.args.part c.args.search.now c.args._from c.args.line c.requires.grows c.requires.from c.requires.adjacent free)

pub returns-clause-reaches : goal.returns-clause-reaches
returns-clause-reaches c = reaches_one c.args.part c.args.search.now c.reach_line.new.search c.args.line (c.is_free.ensures.0 c.if-not-is_free.false).free c.in_ok-reach_line.ensures.reaches

pub returns-clause-line : goal.returns-clause-line
returns-clause-line c = λ inside.
    new_with c.args.rows.now c.args.core.now c.args.part c.args.search.now c.args._from c.args.line c.requires.grows c.requires.from c.requires.adjacent
    (c.is_free.ensures.0 c.if-not-is_free.false) c.reach_line.new.search c.in_ok-reach_line.ensures.reaches
