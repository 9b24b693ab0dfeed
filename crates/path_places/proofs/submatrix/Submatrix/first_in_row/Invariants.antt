use Rattle.std.proofs.Common.{ℕ, ◌<◌}
use Rattle.path_places.specs.Submatrices.{IsNonzeroAmong}
use Rattle.path_places.specs.SubmatrixFields.{view_of}
use Rattle.path_places.proofs.submatrix.Submatrix.first_in_row.Given as goal

abbrev pub invariant-loop-column : goal.invariant-loop-column
invariant-loop-column l = (x : ℕ) → x < l.column → ¬ (IsNonzeroAmong (view_of l.self) l.row x)
