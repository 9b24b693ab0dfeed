use Rattle.std.proofs.Common.{rules, refl}
use Rattle.cmr_large.specs.LargeTu.{large_order, large_order_of}
use Rattle.cmr_large.proofs.LargeRuns.{large_means_for, large_read_for, large_read_of}
use Rattle.cmr_large.proofs.program.run.Goals as goal

pub run-requires-sync-R : goal.run-requires-sync-R
run-requires-sync-R g c κs within = (search rules, ((refl, tt), c.in-Ok.ensures.ranges))

pub returns-in-Ok-clause-means : goal.returns-in-Ok-clause-means
returns-in-Ok-clause-means g c tells order is answer answered =
    large_means_for (large_order c.args.words.now) (large_order_of c.in-Ok.options) (g.S.Shelf.content c.args.shelf.now) answer c.in-Ok.ensures.value
    (c.run.ensures.means tells answer answered) order is

pub returns-in-Ok-clause-read : goal.returns-in-Ok-clause-read
returns-in-Ok-clause-read g c order is answer answered =
    large_read_for (large_order c.args.words.now) (large_order_of c.in-Ok.options) _ answer c.in-Ok.ensures.value (c.run.ensures.runs.means answer answered) order is

pub returns-in-Err-clause-read : goal.returns-in-Err-clause-read
returns-in-Err-clause-read g c = large_read_of (large_order c.args.words.now) _ _ _ _ c.refuse.ensures.runs
