use Rattle.std.proofs.Common.{◌≡◌, ◌++◌, take}
use Rattle.compose.proofs.line_lists.push_all.Given as goal

-- the lines so far
abbrev pub invariant-loop-line : goal.invariant-loop-line
invariant-loop-line l = l.list ≡ l.initial.list ++ take l.line-index l.lines
