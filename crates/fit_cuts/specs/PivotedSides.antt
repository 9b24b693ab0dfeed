-- The sides of a cut after a pivot inside one of them.
use Rattle.std.specs.Prelude.{◌≡◌, ◌↔◌, ℕ, true}
use Rattle.cmr_base.specs.declared.line.Line.TheVariants.{Column, Row}
use Rattle.cmr_base.specs.Matrix.{Matrix, HasTernaryEntries, IsMatrix}
use Rattle.cmr_base.specs.Separations.{Lines, opposite}
use Rattle.ghouila.specs.PivotLaws.{IsPivotPlace, pivot_at}
use Rattle.cuts.specs.LineCuts.{IsCut}
use Rattle.path_places.specs.PathPlaces.{IsFit}

-- the row and the column of a pivot are on the side
pub record IsPivotOn (m : Matrix) (side : Lines) (row column : ℕ) : Type 0 where
  pub at : IsPivotPlace m row column
  pub row_on : side (Row row) ≡ true
  pub column_on : side (Column column) ≡ true

-- after the pivot the sides are still a cut, and the other side is fit if and only if it was fit before
pub record KeepsOtherSide (m : Matrix) (side : Lines) (row column : ℕ) : Type 0 where
  pub cut : IsCut (pivot_at m row column) side
  pub fit : IsFit m (opposite side) ↔ IsFit (pivot_at m row column) (opposite side)

-- A pivot inside a side of a cut without a 2 and a -2. The side is side one or, with the sides exchanged, side two.
abbrev pub PivotsKeepFitSides : Type 0
PivotsKeepFitSides = (m : Matrix) (side : Lines) (row column : ℕ) → IsMatrix m → IsCut m side → IsPivotOn m side row column → HasTernaryEntries (pivot_at m row column)
    → KeepsOtherSide m side row column
