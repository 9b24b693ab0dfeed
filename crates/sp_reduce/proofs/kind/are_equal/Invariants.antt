use Rattle.std.proofs.Common.{◌≡◌, take, true}
use Rattle.cmr_base.specs.Matrix.{entry}
use Rattle.cmr_base.specs.Reductions.{equal_at}
use Rattle.sp_reduce.specs.LineKinds.{table}
use Rattle.sp_reduce.proofs.kind.are_equal.Given as goal

abbrev pub invariant-others : goal.invariant-others
invariant-others l = equal_at (take l.other-index l.across) (table (entry l.matrix) l.kind l.twin) (table (entry l.matrix) l.kind l.line) ≡ true
