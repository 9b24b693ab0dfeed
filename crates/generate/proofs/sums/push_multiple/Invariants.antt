use Rattle.std.proofs.Common.{◌≡◌, ◌++◌, ◌*ℤ◌, map, take}
use Rattle.cmr_base.specs.Matrix.{row_of}
use Rattle.generate.proofs.sums.push_multiple.Given as goal

abbrev pub invariant-loop-column : goal.invariant-loop-column
invariant-loop-column l = l.cells.items ≡ l.initial.cells.items ++ map (λ z. l.fn.factor *ℤ z) (take l.column (row_of l.matrix l.row))
