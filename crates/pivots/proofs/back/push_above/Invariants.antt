use Rattle.std.proofs.Common.{◌≡◌, ◌++◌, filter, nat_lt, take}
use Rattle.pivots.proofs.back.push_above.Given as goal

abbrev pub invariant-loop-line : goal.invariant-loop-line
invariant-loop-line l = l.made ≡ l.initial.made ++ filter (λ line. nat_lt l.bound line) (take l.line-index l.lines)
