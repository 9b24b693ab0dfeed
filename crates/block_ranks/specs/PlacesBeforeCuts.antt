-- Positions of pivots after which a matrix has a cut.
use Rattle.std.specs.Prelude.{◌≡◌, ◌≢◌, ◌<◌, ◌⊎◌, ℕ, pos}
use Rattle.cmr_base.specs.Matrix.{Matrix, height, entry, HasTernaryEntries}
use Rattle.cmr_base.specs.declared.position.Position.{Position}
use Rattle.ghouila.specs.PivotLaws.{pivot_at}
use Rattle.three_sep.specs.FirstCuts.{HasCut}

-- a nonzero whose pivot has a 2 or a -2, or a cut
pub record IsPlaceBeforeCut (m : Matrix) (place : Position) : Type 0 where
  pub row : place.row < height m
  pub column : place.column < m.width
  pub nonzero : entry m place.row place.column ≢ pos 0
  pub after : (¬ (HasTernaryEntries (pivot_at m place.row place.column))) ⊎ HasCut (pivot_at m place.row place.column)

-- one position comes before another one: by rows, then by columns
abbrev pub IsPlaceBefore : Position → Position → Type 0
IsPlaceBefore p q = (p.row < q.row) ⊎ ((p.row ≡ q.row) × (p.column < q.column))

-- the first such nonzero, by rows, then by columns
pub record IsFirstPlaceBeforeCut (m : Matrix) (place : Position) : Type 0 where
  pub is : IsPlaceBeforeCut m place
  pub first : (other : Position) → IsPlaceBeforeCut m other → ¬ (IsPlaceBefore other place)

abbrev pub HasNoPlaceBeforeCut : Matrix → Type 0
HasNoPlaceBeforeCut m = (place : Position) → ¬ (IsPlaceBeforeCut m place)

-- no nonzero before this position is one
abbrev pub HasNoneUpTo : Matrix → (row column : ℕ) → Type 0
HasNoneUpTo m row column = (place : Position) → IsPlaceBeforeCut m place → ¬ ((place.row < row) ⊎ ((place.row ≡ row) × (place.column < column)))
