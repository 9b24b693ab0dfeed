use Rattle.sp_reduce.specs.Tallies.{AreTalliesAt}
use Rattle.sp_reduce.proofs.tallies.Tallies.at.Given as goal

-- the lines so far have theirs
abbrev pub invariant-lines : goal.invariant-lines
invariant-lines l = AreTalliesAt l.lines l.line-index l.self l.tallies
