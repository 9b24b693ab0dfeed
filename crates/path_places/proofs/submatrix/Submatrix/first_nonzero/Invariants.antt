use Rattle.std.proofs.Common.{ℕ, ◌<◌}
use Rattle.path_places.specs.Submatrices.{IsNonzeroAmong}
use Rattle.path_places.specs.SubmatrixFields.{view_of}
use Rattle.path_places.proofs.submatrix.Submatrix.first_nonzero.Given as goal

abbrev pub invariant-loop-row : goal.invariant-loop-row
invariant-loop-row l = (i j : ℕ) → i < l.row → ¬ (IsNonzeroAmong (view_of l.self) i j)
