use Rattle.std.proofs.Common.{◌≡◌, take}
use Rattle.parity.specs.PlaneSums.{equations_of}
use Rattle.parity.proofs.narrow.write_equations.Given as goal

abbrev pub invariant-loop-row : goal.invariant-loop-row
invariant-loop-row l = l.words.items ≡ equations_of l.matrix l.ones (take l.row-index l.rows)
