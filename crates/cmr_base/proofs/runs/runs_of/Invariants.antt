use Rattle.std.proofs.Common.{◌≤◌, ◌-◌, length}
use Rattle.cmr_base.specs.Runs.{AreRuns}
use Rattle.cmr_base.proofs.runs.runs_of.Given as goal

-- the columns before an index are in runs
abbrev pub invariant-loop-place : goal.invariant-loop-place
invariant-loop-place l = record {
  inside : l.place ≤ length l.columns;
  are : AreRuns l.columns l.runs.items l.place;
}

abbrev pub decreases-loop-place : goal.decreases-loop-place
decreases-loop-place l = length l.columns - l.place
