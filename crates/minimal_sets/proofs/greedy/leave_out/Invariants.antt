use Rattle.std.proofs.Common.{◌≤◌, ◌+◌, ◌*◌, ◌-◌}
use Rattle.cmr_base.specs.Matrix.{height}
use Rattle.minimal_sets.proofs.Passes.{IsPass}
use Rattle.minimal_sets.proofs.greedy.leave_out.Given as goal

-- the lines so far have been tried
abbrev pub invariant-lines : goal.invariant-lines
invariant-lines g l = record {
  pass : IsPass (g.P.Property.holds l.property) l.matrix l.fn.lines.rows l.fn.lines.columns l.next l.left.rows l.left.columns;
  in_range : l.next ≤ height l.matrix + l.matrix.width;
  some : 1 ≤ l.tried;
  few : l.tried ≤ 2 * l.next + 1;
}

-- fewer lines remain, or fewer lines are tried at once
abbrev pub decreases-lines : goal.decreases-lines
decreases-lines g l = (height l.matrix + l.matrix.width - l.next) * 4002 + l.tried
