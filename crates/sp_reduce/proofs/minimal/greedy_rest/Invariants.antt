use Rattle.std.proofs.Common.{◌≤◌, ◌+◌, ◌*◌, ◌-◌}
use Rattle.cmr_base.specs.Matrix.{height}
use Rattle.sp_reduce.specs.GreedyRests.{IsGreedySearch}
use Rattle.sp_reduce.proofs.minimal.greedy_rest.Given as goal

-- the lines before `next` have been tried
abbrev pub invariant-lines : goal.invariant-lines
invariant-lines l = record {
  search : IsGreedySearch l.binary l.matrix l.next l.left.rows l.left.columns;
  some : 1 ≤ l.tried;
  few : l.tried ≤ 4000;
}

-- fewer lines remain, or fewer lines are tried at once
abbrev pub decreases-lines : goal.decreases-lines
decreases-lines l = (height l.matrix + l.matrix.width - l.next) * 4002 + l.tried
