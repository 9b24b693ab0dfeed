use Rattle.std.proofs.Common.{true}
use Rattle.cmr_base.proofs.ColumnWords.{cut_by_tests}
use Rattle.cmr_base.proofs.columns.is_cut.Goals as goal

pub returns-then-meets : goal.returns-then-meets
returns-then-meets c = cut_by_tests c.args.one.now c.args.two.now true c.is_within.result c.if-meets.ensures c.is_within.ensures
