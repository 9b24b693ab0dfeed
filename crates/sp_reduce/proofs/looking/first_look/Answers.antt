use Rattle.std.proofs.Common.{subst}
use Rattle.sp_reduce.specs.RowDigests.{AreUnlikeRows}
use Rattle.sp_reduce.proofs.UnlikeRows.{none_reducible}
use Rattle.sp_reduce.proofs.looking.first_look.Goals as goal

pub returns-then-branch-2 : goal.returns-then-branch-2
returns-then-branch-2 c e =
    none_reducible c.args.both.now c.by_rows.ensures.shape
    (subst AreUnlikeRows c.by_rows.ensures.matrix (c.in_ok-has_unlike_rows.ensures c.if-branch.true))
    (subst AreUnlikeRows c.by_columns.ensures.matrix (c.in_ok-has_unlike_rows-2.ensures c.if-branch-2.true))
