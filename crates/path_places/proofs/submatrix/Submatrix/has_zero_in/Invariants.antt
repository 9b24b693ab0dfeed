use Rattle.std.proofs.Common.{ℕ, ◌<◌}
use Rattle.path_places.specs.Submatrices.{IsZeroAmong}
use Rattle.path_places.specs.SubmatrixFields.{view_of}
use Rattle.path_places.proofs.submatrix.Submatrix.has_zero_in.Given as goal

abbrev pub invariant-loop-column : goal.invariant-loop-column
invariant-loop-column l = (x : ℕ) → x < l.column → ¬ (IsZeroAmong (view_of l.self) l.row x)
