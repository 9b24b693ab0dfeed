use Rattle.std.proofs.Common.{◌≡◌, filter}
use Rattle.cmr_base.specs.ColumnSets.{has_column}
use Rattle.cmr_base.specs.LineSets.{first_lines}
use Rattle.cmr_base.proofs.bit_set.BitSet.listed.Given as goal

-- the members so far
abbrev pub invariant-loop-x : goal.invariant-loop-x
invariant-loop-x l = l.members ≡ filter (has_column l.self.words) (first_lines l.x)
