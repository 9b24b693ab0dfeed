use Rattle.std.proofs.Common.{take}
use Rattle.core_parts.specs.SetsOfParts.{HaveRows}
use Rattle.core_parts.proofs.sets.put_rows.Given as goal

abbrev pub invariant-loop-line : goal.invariant-loop-line
invariant-loop-line l = HaveRows l.fn.sets (take l.line l.marks) l.numbers l.sets
