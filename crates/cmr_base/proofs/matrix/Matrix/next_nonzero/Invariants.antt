use Rattle.std.proofs.Common.{◌≡◌, ◌<◌, ◌≤◌, ◌-◌, ℕ, false}
use Rattle.cmr_base.specs.Trees.{support}
use Rattle.cmr_base.proofs.matrix.Matrix.next_nonzero.Given as goal

-- no nonzero so far
abbrev pub invariant-loop-column : goal.invariant-loop-column
invariant-loop-column l = record {
  low : l.from ≤ l.column;
  none : (c : ℕ) → l.from ≤ c → c < l.column → support l.self l.row c ≡ false;
  high : l.column ≤ 1063;
}

abbrev pub decreases-loop-column : goal.decreases-loop-column
decreases-loop-column l = 1063 - l.column
