use Rattle.std.proofs.Common.{◌≡◌, drop}
use Rattle.tree_type.specs.Places.{lines_left}
use Rattle.cert_check.proofs.due_lines.lines_left.Given as goal

-- the remaining steps remove from the remaining lines the lines that all steps remove from all lines
abbrev pub invariant-loop-step : goal.invariant-loop-step
invariant-loop-step l = lines_left l.left (drop l.step-index l.steps) ≡ lines_left l.lines l.steps
