use Rattle.std.proofs.Common.{◌∙◌, not, ap, arith}
use Rattle.sp_reduce.proofs.UnlikeRows.{second_is, two_nonzeros}
use Rattle.sp_reduce.proofs.looking.has_few_nonzeros.Goals as goal

pub returns-in-Some : goal.returns-in-Some
returns-in-Some c e =
    let first = c.in-Some.ensures.first in
    let found = second_is _ _ c.next_nonzero-in-Some.result c.next_nonzero-in-Some.ensures.first (c.is_none.ensures ∙ ap not e) in
    let after = found.1 in
    two_nonzeros c.args.matrix.now c.args.row c.in-Some.first found.0 first.1 after.1 (omega (arith, after.0)) first.2 after.2
