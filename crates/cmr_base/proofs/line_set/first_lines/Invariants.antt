use Rattle.std.proofs.Common.{◌≡◌}
use Rattle.cmr_base.specs.LineSets.{first_lines}
use Rattle.cmr_base.proofs.line_set.first_lines.Given as goal

abbrev pub invariant-loop-line : goal.invariant-loop-line
invariant-loop-line l = l.lines ≡ first_lines l.line
