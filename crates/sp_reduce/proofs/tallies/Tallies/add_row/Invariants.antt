use Rattle.std.proofs.Common.{◌≤◌, ◌-◌}
use Rattle.sp_reduce.specs.Tallies.{AreTallies}
use Rattle.sp_reduce.proofs.tallies.Tallies.add_row.Given as goal

-- the nonzeros so far are counted
abbrev pub invariant-columns : goal.invariant-columns
invariant-columns l = record {
  inside : l.from ≤ 1000;
  are : AreTallies l.matrix l.kind l.visited l.marks l.row l.from l.self;
}

abbrev pub decreases-columns : goal.decreases-columns
decreases-columns l = 1001 - l.from
