use Rattle.std.proofs.Common.{◌≡◌, length, rules, subst}
use Rattle.split_search.specs.RowForests.{ReachesRow}
use Rattle.split_search.proofs.Queues.{follows_with, follows_without}
use Rattle.split_search.proofs.forest.reach_all.Goals as goal
use Rattle.split_search.proofs.forest.reach_all.Goals.{in-Some+in_ok-push, in_default}

pub loop-nonzero-preserved : goal.loop-nonzero-preserved
loop-nonzero-preserved c =
    let columns = c.args.columns.now in
    let before = c.args.nodes.now.items in
    let nodes = c.loop-nonzero.nodes.items in
    let later = c.extend.new.nodes.items in
    let old = c.args.queue.now.items in
    let queue = c.loop-nonzero.queue.items in
    let index = c.loop-nonzero.nonzero-index in
    elim c.match-extend.branch [
      | in-Some+in_ok-push w ↦
          let reached = w.in-Some.ensures in
          let counted : c.len.result ≡ length queue = search rules in
          let reaches : ReachesRow columns nodes later c.args.root (length queue) w.in-Some.row = subst (λ n. ReachesRow columns nodes later c.args.root n w.in-Some.row) counted reached.reaches in
          rw w.queue-is (follows_with columns before nodes later c.args.root c.args._row index old queue c.args.run.now
          c.loop-nonzero-test.true c.requires.row c.loop-nonzero.invariant c.extend.ensures.closed
          _ w.in-Some.row w.in_ok-push.ensures.items reaches reached.fewer reached.within)
      | in_default w ↦
          let same : later ≡ nodes = search rules in
          rw w.queue-is (follows_without columns before nodes later c.args.root c.args._row index old queue c.args.run.now
          c.loop-nonzero-test.true c.requires.row c.loop-nonzero.invariant c.extend.ensures.closed same)
    ]
