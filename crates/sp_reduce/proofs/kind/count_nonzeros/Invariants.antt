use Rattle.std.proofs.Common.{◌≡◌, ◌≤◌, take}
use Rattle.cmr_base.specs.Matrix.{entry}
use Rattle.cmr_base.specs.Reductions.{nonzeros_at}
use Rattle.sp_reduce.specs.LineKinds.{table}
use Rattle.sp_reduce.proofs.kind.count_nonzeros.Given as goal

-- the nonzeros so far
abbrev pub invariant-others : goal.invariant-others
invariant-others l = (l.count ≡ nonzeros_at (take l.other-index l.across) (table (entry l.matrix) l.kind l.line)) × (l.count ≤ l.other-index)
