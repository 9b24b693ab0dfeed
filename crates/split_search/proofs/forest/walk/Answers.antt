use Rattle.std.proofs.Common.{◌≡◌, ◌≤◌, ◌<◌, ◌∙◌, get_or, length, rules, sym, arith}
use Rattle.std.proofs.lemmas.List.{get_or_read}
use Rattle.split_search.proofs.Queues.{closed_kept, closed_more, row_closed}
use Rattle.split_search.proofs.forest.walk.Goals as goal

pub rows-preserved : goal.rows-preserved
rows-preserved c =
    let columns = c.args.columns.now in
    let reached = c.in_ok-reach_all.ensures in
    let queue = c.rows.queue.items in
    let later = c.reach_all.new.queue.items in
    let head = c.rows.head in
    let nodes = c.reach_all.new.nodes.items in
    let row = c.index-row.result.now in
    let below : head < length queue = search rules in
    let longer = reached.before.at_least in
    let is : row ≡ get_or queue head 0 = get_or_read queue head row below c.index-row.ensures 0 in (
      reached.walks,
      omega (arith, below, longer),
      λ r h. reached.kept r (c.rows.invariant.2 r h),
      closed_more columns nodes later head row (is ∙ sym (reached.before.same head below))
          (closed_kept columns c.rows.nodes.items nodes queue later head c.rows.invariant.1 reached.kept reached.before c.rows.invariant.3)
          (row_closed c.args.rows.now columns nodes row c.row.result.now c.rows-columns.ensures.shape c.requires.crossed c.row.ensures.run reached.closed),
    )

pub returns-clause-closed : goal.returns-clause-closed
returns-clause-closed c =
    let below : length c.rows.queue.items ≤ c.rows.head = search rules in
    λ k l. c.rows.invariant.3 k (omega (arith, below, l))
