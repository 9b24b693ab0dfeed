use Rattle.std.proofs.Common.{sym}
use Rattle.sp_reduce.proofs.Weights.{alone_reason}
use Rattle.sp_reduce.proofs.side.StayingLines.twin_reason.Goals as goal

pub returns-else-shares_sum : goal.returns-else-shares_sum
returns-else-shares_sum c =
    sym (alone_reason c.args.binary c.args.matrix.now c.args.self.now c.args.across.now c.args.place c.requires.counted c.requires.place (c.shares_sum.ensures c.if-shares_sum.false))
