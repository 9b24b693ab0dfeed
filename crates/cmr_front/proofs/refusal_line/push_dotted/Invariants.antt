use Rattle.std.proofs.Common.{◌≡◌, ◌++◌, drop}
use Rattle.cmr_front.specs.Refusals.{dotted}
use Rattle.cmr_front.proofs.refusal_line.push_dotted.Given as goal

-- the written numbers and the remaining ones are all numbers
abbrev pub invariant-loop-child : goal.invariant-loop-child
invariant-loop-child l = l.text.items ++ dotted (drop l.child-index l.path) ≡ l.initial.text.items ++ dotted l.path
