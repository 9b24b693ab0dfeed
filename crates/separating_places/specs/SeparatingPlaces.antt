-- The position of the next pivot of a submatrix: the position of its first cut, and otherwise a drawn one. After ten drawn positions a
-- nonzero whose pivot gives a cut comes before a drawn one.
use Rattle.std.specs.Prelude.{◌≡◌, ◌⊎◌, ℕ, Option, Some, None, MatchOption, slice_index_or}
use Rattle.cmr_base.specs.declared.line_set.LineSet.{LineSet}
use Rattle.cmr_base.specs.LineSets.{submatrix}
use Rattle.cmr_base.specs.Matrix.{Matrix}
use Rattle.path_places.specs.PathPlaces.{IsCutPlace}
use Rattle.path_places.specs.SideMasks.{side_of}
use Rattle.cmr_base.specs.declared.position.Position.{Position}
use Rattle.pivots.specs.declared.drawn.DrawnPlace.{DrawnPlace}
use Rattle.pivots.specs.DrawnPlaces.{drawn_place}
use Rattle.three_sep.specs.FirstCuts.{IsFirstCutOn}
use Rattle.block_ranks.specs.PlacesBeforeCuts.{HasNoPlaceBeforeCut, IsFirstPlaceBeforeCut}
use Rattle.separating_places.specs.declared.place.TheConstants.{LATE_STATE}

-- the position of the first cut of a matrix, by side one of the cut
pub record IsPlaceFor (m : Matrix) (place : Position) : Type 0 where
  pub side : LineSet
  pub first : IsFirstCutOn m side.rows side.columns
  pub at : IsCutPlace m (side_of side) place.row place.column

-- the matrix has no cut, or both sides of its first cut are fit, or the side that is not fit has no path
abbrev pub HasNoPlaceFor : Matrix → Type 0
HasNoPlaceFor m = (place : Position) → ¬ (IsPlaceFor m place)

-- the position of the first cut of the submatrix on some lines, by the line numbers of the whole matrix
pub record IsSeparatingPlace (m : Matrix) (lines : LineSet) (place : Position) : Type 0 where
  pub inside : Position
  pub at : IsPlaceFor (submatrix m lines.rows lines.columns) inside
  pub row : place.row ≡ slice_index_or lines.rows inside.row 0
  pub column : place.column ≡ slice_index_or lines.columns inside.column 0

abbrev pub HasNoSeparatingPlace : Matrix → LineSet → Type 0
HasNoSeparatingPlace m lines = (place : Position) → ¬ (IsSeparatingPlace m lines place)

-- the first nonzero of the submatrix whose pivot has a 2, a -2 or a cut, by the line numbers of the whole matrix
pub record IsFirstBeforeCut (m : Matrix) (lines : LineSet) (place : Position) : Type 0 where
  pub inside : Position
  pub at : IsFirstPlaceBeforeCut (submatrix m lines.rows lines.columns) inside
  pub row : place.row ≡ slice_index_or lines.rows inside.row 0
  pub column : place.column ≡ slice_index_or lines.columns inside.column 0

-- such a nonzero if ten positions have been drawn
abbrev pub IsLatePlace : Matrix → LineSet → ℕ → Position → Type 0
IsLatePlace m lines state place = (state ≡ LATE_STATE) × IsFirstBeforeCut m lines place

-- fewer positions have been drawn, or more, or no nonzero has such a pivot
abbrev pub HasNoLatePlace : Matrix → LineSet → ℕ → Type 0
HasNoLatePlace m lines state = state ≡ LATE_STATE → HasNoPlaceBeforeCut (submatrix m lines.rows lines.columns)

-- The position of the next pivot and the state after it: the position of the first cut with the same state; if it has none, after ten drawn
-- positions the first nonzero whose pivot has a 2, a -2 or a cut, with the same state; and otherwise the position that is drawn from the
-- state.
abbrev pub IsChosenPlace : Matrix → LineSet → ℕ → DrawnPlace → Type 0
IsChosenPlace m lines state chosen =
    (IsSeparatingPlace m lines chosen.place × (chosen.state ≡ state))
    ⊎ (HasNoSeparatingPlace m lines
    × ((IsLatePlace m lines state chosen.place × (chosen.state ≡ state))
    ⊎ (HasNoLatePlace m lines state × (drawn_place m lines state ≡ Some chosen))))

-- the first cut has no position, no late position exists, and the submatrix is zero
abbrev pub HasNoChosenPlace : Matrix → LineSet → ℕ → Type 0
HasNoChosenPlace m lines state = HasNoSeparatingPlace m lines × HasNoLatePlace m lines state × (drawn_place m lines state ≡ None)

-- `None` if and only if there is no such position
abbrev pub IsNextPlace : Matrix → LineSet → ℕ → Option DrawnPlace → Type 0
IsNextPlace m lines state found = MatchOption found (HasNoChosenPlace m lines state) (IsChosenPlace m lines state)
