use Rattle.std.proofs.Common.{◌≡◌, ◌++◌, drop}
use Rattle.cmr_front.specs.Printed.{line_numbers}
use Rattle.cmr_front.proofs.printed.push_line_numbers.Given as goal

-- the written numbers and the remaining ones are all numbers
abbrev pub invariant-loop-line : goal.invariant-loop-line
invariant-loop-line l = l.text.items ++ line_numbers (drop l.line-index l.line-items) ≡ l.initial.text.items ++ line_numbers l.lines
