use Rattle.std.proofs.Common.{◌≡◌, ◌++◌, ◌-◌}
use Rattle.cmr_base.specs.LineSets.{set_numbered}
use Rattle.cmr_base.proofs.set_numbers.write_set.Given as goal

-- the lines so far, with the remaining lines
abbrev pub invariant-loop-line : goal.invariant-loop-line
invariant-loop-line l = l.set.items ++ set_numbered (l.lines - l.line) l.line l.rest ≡ set_numbered l.lines 0 l.number
