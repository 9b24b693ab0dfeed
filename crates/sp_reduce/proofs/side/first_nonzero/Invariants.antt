use Rattle.std.proofs.Common.{◌≡◌, take, find, None}
use Rattle.cmr_base.specs.Matrix.{entry, is_nonzero}
use Rattle.sp_reduce.specs.LineKinds.{table}
use Rattle.sp_reduce.proofs.side.first_nonzero.Given as goal

abbrev pub invariant-others : goal.invariant-others
invariant-others l = find (λ other. is_nonzero (table (entry l.matrix) l.kind l.line other)) (take l.other-index l.across) ≡ None
