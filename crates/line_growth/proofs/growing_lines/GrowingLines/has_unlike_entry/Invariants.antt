use Rattle.std.proofs.Common.{◌≡◌, ◌<◌, ◌≤◌, ◌-◌, ℕ, true}
use Rattle.cmr_base.specs.Matrix.{entry}
use Rattle.line_growth.specs.GrowingLines.{is_inside}
use Rattle.line_growth.specs.Rules.{sum_at}
use Rattle.line_growth.proofs.growing_lines.GrowingLines.has_unlike_entry.Given as goal

abbrev pub invariant-loop-line : goal.invariant-loop-line
invariant-loop-line l = record {
  done : (line : ℕ) → line < l.from → is_inside l.self line ≡ true → entry l.matrix l.row line ≡ sum_at l.matrix l.sum line;
  few : l.from ≤ l.self.inside.size;
}

abbrev pub decreases-loop-line : goal.decreases-loop-line
decreases-loop-line l = l.self.inside.size - l.from
