use Rattle.std.proofs.Common.{◌≡◌, take}
use Rattle.cmr_base.specs.LineSets.{without}
use Rattle.cmr_base.proofs.line_set.without.Given as goal

abbrev pub invariant-loop-line : goal.invariant-loop-line
invariant-loop-line l = l.rest ≡ without (take l.line-index l.lines) l.omitted
