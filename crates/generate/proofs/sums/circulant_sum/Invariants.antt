use Rattle.std.proofs.Common.{◌≡◌, take}
use Rattle.generate.specs.Generated.{circulant_sum}
use Rattle.generate.proofs.JoinedRows.{joined}
use Rattle.generate.proofs.sums.circulant_sum.Given as goal

-- the rows so far are the first rows of the sum
abbrev pub invariant-loop-row : goal.invariant-loop-row
invariant-loop-row l = l.cells.items ≡ joined (take l.row (circulant_sum l.size).rows)
