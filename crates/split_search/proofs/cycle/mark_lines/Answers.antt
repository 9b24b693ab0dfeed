use Rattle.split_search.proofs.MarkedLines.{marks_more, only_more}
use Rattle.split_search.proofs.cycle.mark_lines.Goals as goal

pub loop-nonzero-preserved : goal.loop-nonzero-preserved
loop-nonzero-preserved c =
    let old = c.args.marks.now.items in
    let marks = c.loop-nonzero.marks.items in
    let run = c.args.run.now in
    let index = c.loop-nonzero.nonzero-index in
    let is = c.loop-nonzero.invariant in
    let more = marks_more old marks run index c.loop-nonzero-test.true c.requires (is.0, is.1, is.2) in
    (more.0, more.1, more.2, only_more old marks run index c.loop-nonzero-test.true c.requires is.3)
