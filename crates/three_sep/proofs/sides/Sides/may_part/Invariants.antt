use Rattle.three_sep.specs.KeptSides.{KeepsSide}
use Rattle.three_sep.proofs.sides.Sides.may_part.Given as goal

abbrev pub invariant-loop-row : goal.invariant-loop-row
invariant-loop-row l = KeepsSide l.fn.self l.self
