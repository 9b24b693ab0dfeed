use Rattle.std.proofs.Common.{◌<◌, ◌≤◌, length, rules, sym, arith}
use Rattle.part_numbers.proofs.FollowedLines.{followed_all, followed_to_more, queue_short}
use Rattle.part_numbers.proofs.ReachedLines.{reaches_then}
use Rattle.part_numbers.proofs.search.walk.Goals as goal

pub lines-smaller : goal.lines-smaller
lines-smaller c =
    let below : c.lines.place < length c.lines.search.queue.items = search rules in
    let short = queue_short c.args.rows.now c.args.core.now c.args.part c.lines.search c.lines.invariant.0 in
    omega (arith, below, short)

pub lines-preserved : goal.lines-preserved
lines-preserved c =
    let below : c.lines.place < length c.lines.search.queue.items = search rules in
    let reached = c.in_ok-follow.ensures in
    let line = c.index-line.result.now in (
      reached.grows,
      reaches_then c.args.part c.args.search.now c.lines.search c.follow.new.search c.lines.invariant.1 reached.reaches,
      followed_to_more c.args.rows.now c.args.core.now c.args.part c.lines.search c.follow.new.search c.lines.place line below reached.reaches c.lines.invariant.0.searched.reached
          (sym c.index-line.ensures) reached.followed c.lines.invariant.2,
    )

pub returns-clause-followed : goal.returns-clause-followed
returns-clause-followed c =
    let below : length c.lines.search.queue.items ≤ c.lines.place = search rules in
    followed_all c.args.rows.now c.args.core.now c.args.part c.lines.place c.lines.search below c.lines.invariant.0 c.lines.invariant.2
