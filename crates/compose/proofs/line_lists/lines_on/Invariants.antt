use Rattle.std.proofs.Common.{◌≡◌, take}
use Rattle.compose.specs.Arrangements.{lines_on}
use Rattle.compose.proofs.line_lists.lines_on.Given as goal

-- the lines so far
abbrev pub invariant-loop-line : goal.invariant-loop-line
invariant-loop-line l = l.chosen ≡ lines_on l.inside l.list (take l.line-index l.lines)
