use Rattle.std.proofs.Common.{◌≡◌, ◌≢◌, ◌<◌, ◌≤◌, ◌-◌, ℕ, pos}
use Rattle.cmr_base.specs.Matrix.{entry}
use Rattle.three_sep.proofs.tied_lines.tied_column.Given as goal

abbrev pub invariant-others : goal.invariant-others
invariant-others l = record {
  from_in : l.from ≤ 1000;
  none : (c : ℕ) → c < l.from → ¬ ((entry l.lines l.own c ≡ pos 0) × (entry l.lines l.across c ≢ pos 0));
}

abbrev pub decreases-others : goal.decreases-others
decreases-others l = 1000 - l.from
