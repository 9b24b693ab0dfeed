-- Matrices after pivots of submatrices.
use Rattle.std.proofs.Common.{◌≡◌, ◌<◌, ℕ, List, [], ◌∷◌, length, get_or, sym, subst}
use Rattle.cmr_base.specs.declared.line_set.LineSet.{LineSet}
use Rattle.cmr_base.specs.Matrix.{Matrix, height, IsMatrix}
use Rattle.cmr_base.proofs.FilledMatrices.{height-filled}
use Rattle.cmr_base.specs.declared.position.Position.{Position}
use Rattle.cmr_base.specs.PlacedPivots.{replaced_entry, pivoted_part, IsPlaceIn, IsTernaryPivot}
use Rattle.pivots.proofs.PartLaws.{free_before_pivot, part_pivots_stay_matrices}
use Rattle.tree_type.specs.Invariant.{AreLines}
use Rattle.tree_type.specs.Places.{MadePivot, matrix_after}
use Rattle.tree_laws.proofs.FreeSets.{IsFreeOn}

pub height-pivoted : (m : Matrix) (lines : LineSet) (place : Position) → height (pivoted_part m lines place) ≡ height m
height-pivoted m lines place = height-filled (height m) m.width (replaced_entry m lines place)

-- the pivot keeps the lines
pub lines_pivoted : (m : Matrix) (lines : LineSet) (place : Position) (set : LineSet) → AreLines m set → AreLines (pivoted_part m lines place) set
lines_pivoted m lines place set are = record {
  rows = record { increasing = are.rows.increasing; in_range = subst (λ n. (k : ℕ) → k < length set.rows → get_or set.rows k 0 < n) (sym (height-pivoted m lines place)) are.rows.in_range };
  columns = record { increasing = are.columns.increasing; in_range = are.columns.in_range };
}

pub lines_after : (m : Matrix) (pivots : List MadePivot) (set : LineSet) → AreLines m set → AreLines (matrix_after m pivots) set
lines_after m [] set are = are
lines_after m (last ∷ pivots) set are = lines_pivoted (matrix_after m pivots) last.lines last.place set (lines_after m pivots set are)

-- if the lines contain no violator after the pivot, they contained none before
pub free_pivoted : (m : Matrix) (lines : LineSet) (place : Position) → IsMatrix m → AreLines m lines → IsPlaceIn m lines place → IsFreeOn (pivoted_part m lines place) lines → IsFreeOn m lines
free_pivoted m lines place is are in_lines free = free_before_pivot m lines place are.rows are.columns (is.small place.row place.column) in_lines free

pub pivoted_is_matrix : (m : Matrix) (lines : LineSet) (place : Position) → IsMatrix m → IsTernaryPivot m lines place → IsMatrix (pivoted_part m lines place)
pivoted_is_matrix m lines place is ternary = part_pivots_stay_matrices m lines place is ternary
