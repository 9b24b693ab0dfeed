use Rattle.std.proofs.Common.{◌≡◌, take}
use Rattle.ghouila.specs.Found.{marked}
use Rattle.split_search.proofs.cycle.marked_lines.Given as goal

abbrev pub invariant-loop-line : goal.invariant-loop-line
invariant-loop-line l = l.lines ≡ marked (take l.line l.marks)
