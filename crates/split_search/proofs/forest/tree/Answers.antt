use Rattle.std.proofs.Common.{◌≡◌, ◌+◌, ◌++◌, [], ◌∷◌, length, length-append, rules, sym, subst, arith, ◌<◌}
use Rattle.split_search.specs.RowForests.{AreClosedBelow, Grows, HasAppended, Walks}
use Rattle.split_search.proofs.Queues.{closed_kept, longer_more, longer_same, queue_closed, queue_more}
use Rattle.split_search.proofs.forest.tree.Goals as goal

pub seat-requires-clause-closed : goal.seat-requires-clause-closed
seat-requires-clause-closed c = queue_closed c.args.columns.now c.args.nodes.now.items c.args.queue.now.items c.requires.between.queue_is c.requires.between.closed

pub walk-requires-clause-walks : goal.walk-requires-clause-walks
walk-requires-clause-walks c =
    let columns = c.args.columns.now in
    let later = c.seat.new.nodes.items in
    let queue = c.args.queue.now.items in
    let seated = c.seat.ensures in
    let inside : c.args.root < columns.width = search rules in
    let counted : c.len-from.result ≡ length queue = search rules in
    let longer : length (queue ++ c.args.root ∷ []) ≡ length queue + 1 = length-append queue (c.args.root ∷ []) in
    subst (Walks columns later c.args.root) (sym c.in_ok-push.ensures.items) (record {
      grows = subst (Grows columns later c.args.root) (sym longer) (subst (λ n. Grows columns later c.args.root (n + 1)) counted seated.grows);
      queue_is = queue_more columns c.args.nodes.now.items later queue c.args.root c.len-from.result c.args.root c.requires.between.queue_is seated inside;
    })

pub walk-requires-clause-closed : goal.walk-requires-clause-closed
walk-requires-clause-closed c =
    let queue = c.args.queue.now.items in
    let later = c.push.new.self.items in
    let counted : c.len-from.result ≡ length queue = search rules in
    let longer : HasAppended queue later = subst (HasAppended queue) (sym c.in_ok-push.ensures.items) (longer_more queue queue c.args.root (longer_same queue)) in
    subst (AreClosedBelow c.args.columns.now c.seat.new.nodes.items later) (sym counted)
    (closed_kept c.args.columns.now c.args.nodes.now.items c.seat.new.nodes.items queue later (length queue) (omega arith) c.seat.ensures.kept longer c.requires.between.closed)
