use Rattle.std.proofs.Common.{◌≡◌, map, take}
use Rattle.decomp_tree.specs.Shapes.{numbered_line}
use Rattle.decomp_tree.proofs.naming.named_steps.Given as goal

abbrev pub invariant-loop-step : goal.invariant-loop-step
invariant-loop-step l = l.named ≡ map (numbered_line l.lines) (map (λ step. step.line) (take l.step-index l.steps))
