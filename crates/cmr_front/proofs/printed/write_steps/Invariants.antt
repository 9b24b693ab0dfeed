use Rattle.std.proofs.Common.{◌≡◌, ◌++◌, drop}
use Rattle.cmr_front.specs.Printed.{steps_text}
use Rattle.cmr_front.proofs.printed.write_steps.Given as goal

-- the written lines and the remaining ones are all lines
abbrev pub invariant-loop-step : goal.invariant-loop-step
invariant-loop-step l = l.text.items ++ steps_text (drop l.step-index l.step-items) ≡ steps_text l.steps
