use Rattle.sp_reduce.proofs.PlaceSums.{one_marked}
use Rattle.sp_reduce.proofs.tallies.marks_of.Goals as goal

pub lines-preserved : goal.lines-preserved
lines-preserved c =
    one_marked c.args.size c.args.lines.now c.lines.marks.items c.lines.line-index c.lines-test.true (c.requires c.lines.line-index c.lines-test.true) c.lines.invariant
