use Rattle.std.proofs.Common.{◌≡◌, ◌++◌, drop}
use Rattle.cmr_reach.specs.Sign.{step_lines}
use Rattle.cmr_reach.proofs.tools.sign.push_steps.Given as goal

-- the written lines and the remaining ones are all lines
abbrev pub invariant-loop-step : goal.invariant-loop-step
invariant-loop-step l = l.text.items ++ step_lines (drop l.step-index l.steps) ≡ l.initial.text.items ++ step_lines l.steps
