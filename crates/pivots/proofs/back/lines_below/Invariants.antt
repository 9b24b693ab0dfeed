use Rattle.std.proofs.Common.{◌≡◌, filter, nat_lt, take}
use Rattle.pivots.proofs.back.lines_below.Given as goal

abbrev pub invariant-loop-line : goal.invariant-loop-line
invariant-loop-line l = l.made ≡ filter (λ line. nat_lt line l.bound) (take l.line-index l.lines)
