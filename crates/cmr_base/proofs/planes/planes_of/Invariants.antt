use Rattle.std.proofs.Common.{◌≡◌, take}
use Rattle.std.specs.List.{flat_map}
use Rattle.cmr_base.specs.Matrix.{is_nonzero, rows_of}
use Rattle.cmr_base.specs.Planes.{is_minus, words_of}
use Rattle.cmr_base.proofs.planes.planes_of.Given as goal

-- the rows so far
abbrev pub invariant-loop-row : goal.invariant-loop-row
invariant-loop-row l = record {
  support_is : l.support.items ≡ flat_map (words_of l.words is_nonzero) (take l.row (rows_of l.rows l.columns l.cells));
  minus_is : l.minus.items ≡ flat_map (words_of l.words is_minus) (take l.row (rows_of l.rows l.columns l.cells));
}
