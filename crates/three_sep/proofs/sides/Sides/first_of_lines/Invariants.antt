use Rattle.three_sep.specs.Connectors.{all_prefix}
use Rattle.three_sep.specs.KeptSides.{KeepsSide}
use Rattle.three_sep.specs.Searches.{HasNoneBelow}
use Rattle.three_sep.proofs.sides.Sides.first_of_lines.Given as goal

abbrev pub invariant-loop-place : goal.invariant-loop-place
invariant-loop-place l = KeepsSide l.fn.self l.self × HasNoneBelow l.fn.self.matrix.now (all_prefix l.form l.fn.connectors) l.place
