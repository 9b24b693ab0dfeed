use Rattle.std.proofs.Common.{◌≡◌, ◌++◌, map, take}
use Rattle.compose.specs.Arrangements.{plain}
use Rattle.compose.proofs.signed_line.push_plain.Given as goal

-- the lines so far
abbrev pub invariant-loop-line : goal.invariant-loop-line
invariant-loop-line l = l.list ≡ l.initial.list ++ map plain (take l.line-index l.lines)
