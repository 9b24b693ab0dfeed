use Rattle.std.proofs.Common.{◌≡◌, ◌++◌, drop}
use Rattle.generate.specs.Generated.{negated_rows}
use Rattle.generate.proofs.JoinedRows.{joined}
use Rattle.generate.proofs.sums.negated.Given as goal

-- the rows so far, followed by the other rows, are all rows
abbrev pub invariant-loop-row : goal.invariant-loop-row
invariant-loop-row l = l.cells.items ++ joined (negated_rows (drop l.row l.matrix.rows) (drop l.row l.signs)) ≡ joined (negated_rows l.matrix.rows l.signs)
