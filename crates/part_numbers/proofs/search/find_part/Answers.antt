use Rattle.std.proofs.Common.{◌≡◌, ◌∙◌, length, rules, sym}
use Rattle.cmr_base.specs.declared.line.Line.TheVariants.{Row}
use Rattle.cmr_base.proofs.Booleans.{true_is_false}
use Rattle.part_numbers.proofs.FollowedLines.{followed_first}
use Rattle.part_numbers.proofs.ReachedLines.{grows_first, reached_if_not_free, reaches_one, reaches_then}
use Rattle.part_numbers.proofs.RowsInOrder.{rows_with, rows_without}
use Rattle.part_numbers.proofs.search.find_part.Goals as goal

pub returns-then-not-is_free-clause-before : goal.returns-then-not-is_free-clause-before
returns-then-not-is_free-clause-before c = rows_without c.args.core.now c.args.search.now c.args.row c.args.part
    (reached_if_not_free c.args.core.now c.args.search.now (Row c.args.row) (λ free. true_is_false (sym (c.is_free.ensures.1 free) ∙ c.if-not-is_free.true))) c.requires.before

pub walk-requires-clause-grows : goal.walk-requires-clause-grows
walk-requires-clause-grows c = grows_first c.args.rows.now c.args.core.now c.args.part c.args.search.now c.reach_line.new.search (Row c.args.row) c.requires.followed
    (c.is_free.ensures.0 c.if-not-is_free.false) c.in_ok-reach_line.ensures.sized c.in_ok-reach_line.ensures.reaches

pub walk-requires-clause-followed : goal.walk-requires-clause-followed
walk-requires-clause-followed c =
    let from : c.len-from.result ≡ length c.args.search.now.queue.items = search rules in
    followed_first c.args.rows.now c.args.core.now c.args.part c.len-from.result c.args.search.now c.reach_line.new.search from
    (reaches_one c.args.part c.args.search.now c.reach_line.new.search (Row c.args.row) (c.is_free.ensures.0 c.if-not-is_free.false).free c.in_ok-reach_line.ensures.reaches) c.requires.followed

pub returns-clause-before : goal.returns-clause-before
returns-clause-before c =
    let row = c.args.row in
    let first = c.in_ok-reach_line.ensures.reaches in
    let walked = c.in_ok-walk.ensures in
    rows_with c.args.core.now c.args.search.now c.walk.new.search row c.args.part
    (reaches_then c.args.part c.args.search.now c.reach_line.new.search c.walk.new.search
    (reaches_one c.args.part c.args.search.now c.reach_line.new.search (Row row) (c.is_free.ensures.0 c.if-not-is_free.false).free first) walked.reaches)
    (walked.reaches.reached (Row row) first.reached) (walked.reaches.numbers (Row row) first.reached ∙ first.number) c.requires.before
    (λ other h. walked.followed.searched.within (Row other) h)
