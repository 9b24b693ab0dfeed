-- Where the pivots end if lines stay open.
use Rattle.std.specs.Prelude.{◌≡◌, ◌≤◌, ◌⊎◌, ℕ, zero, suc}
use Rattle.cmr_base.specs.declared.line_set.LineSet.{LineSet}
use Rattle.cmr_base.specs.Matrix.{Matrix}
use Rattle.cmr_base.specs.PlacedPivots.{pivoted_part, IsTernaryPivot}
use Rattle.pivots.specs.declared.drawn.DrawnPlace.{DrawnPlace}
use Rattle.block_ranks.specs.BlockRanks.{HasNoRankSeparation}
use Rattle.block_ranks.specs.PlacesBeforeCuts.{HasNoPlaceBeforeCut}
use Rattle.separating_places.specs.declared.place.TheConstants.{LATE_STATE}
use Rattle.separating_places.specs.SeparatingPlaces.{HasNoSeparatingPlace, IsChosenPlace}
use Rattle.tree_type.specs.Invariant.{AreLines, AreLinesOf}
use Rattle.tree_type.specs.Soundness.{part}
use Rattle.decomp_tree.specs.PivotedShapes.{AreTooDeep}
use Rattle.decomp_tree.specs.Shapes.{IsFirstCase, IsLeft}

-- Ten positions have been drawn, and the next one would be drawn too: the first cut of the submatrix has no position, and no pivot of the
-- submatrix has a 2, a -2 or a cut. The submatrix is neither recognised nor separated, and it has no three-separation of any kind.
pub record IsLateEnd (limit state : ℕ) (m : Matrix) (lines : LineSet) : Type 0 where
  pub late : state ≡ LATE_STATE
  pub no_place : HasNoSeparatingPlace m lines
  pub no_cut : HasNoPlaceBeforeCut (part m lines)
  pub case : IsFirstCase limit (part m lines) IsLeft
  pub no_separation : HasNoRankSeparation (part m lines)

-- The pivot at the next position has no 2 and no -2, and it leaves some of the lines open: they reach the last case, and they have a
-- property.
pub record LeavesOpen (limit state : ℕ) (EndsAfter : ℕ → Matrix → LineSet → Type 0) (m : Matrix) (lines : LineSet) : Type 0 where
  pub chosen : DrawnPlace
  pub at : IsChosenPlace m lines state chosen
  pub ternary : IsTernaryPivot m lines chosen.place
  pub left : LineSet
  pub are : AreLines (pivoted_part m lines chosen.place) left
  pub within : AreLinesOf left lines
  pub case : IsFirstCase limit (part (pivoted_part m lines chosen.place) left) IsLeft
  pub ends : EndsAfter chosen.state (pivoted_part m lines chosen.place) left

-- Where the pivots end that leave these lines open, if at most this number of them may be made: all of them are made, or there is no
-- three-separation of any kind after ten drawn positions.
abbrev pub EndsOpen : (limit pivots state : ℕ) → Matrix → LineSet → Type 0
EndsOpen limit zero state m lines = Unit {0}
EndsOpen limit (suc pivots) state m lines = IsLateEnd limit state m lines ⊎ LeavesOpen limit state (EndsOpen limit pivots) m lines

-- The number of pivots on the path to a node with which these lines are open, and where these pivots end. It is less than the allowed
-- number only if a node would be deeper than 2,000 with more.
pub record HasEnd (limit pivots : ℕ) (m : Matrix) (lines : LineSet) : Type 0 where
  pub made : ℕ
  pub few : made ≤ pivots
  pub most : AreTooDeep limit made pivots m
  pub ends : EndsOpen limit made 1 m lines
