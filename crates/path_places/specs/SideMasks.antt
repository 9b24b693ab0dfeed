-- Sides of cuts as sets of lines.
use Rattle.std.specs.Prelude.{◌≡◌, ◌↔◌, ℕ, true}
use Rattle.cmr_base.specs.declared.line_mask.LineMask.{LineMask}
use Rattle.cmr_base.specs.declared.line_set.LineSet.{LineSet}
use Rattle.cmr_base.specs.ColumnSets.{has_column}
use Rattle.cmr_base.specs.Matrix.{Matrix}
use Rattle.cmr_base.specs.Separations.{Lines, listed}
use Rattle.path_places.specs.declared.side.Side.{Side}
use Rattle.path_places.specs.PathPlaces.{IsColumnOn, IsEndColumn, IsEndRow, IsInnerColumn, IsInnerRow, IsRowOn}

-- the set has the lines of a side
pub record AreSideLines (m : Matrix) (side : Lines) (mask : LineMask) : Type 0 where
  pub rows : (r : ℕ) → (has_column mask.rows.words r ≡ true) ↔ IsRowOn m side r
  pub columns : (c : ℕ) → (has_column mask.columns.words c ≡ true) ↔ IsColumnOn m side c

-- the ends and the inner lines of the side with these lines
pub record IsSideOf (lines : Lines) (side : Side) : Type 0 where
  pub end_rows : (r : ℕ) → (has_column side.ends.rows.words r ≡ true) ↔ IsEndRow side.matrix.now lines r
  pub end_columns : (c : ℕ) → (has_column side.ends.columns.words c ≡ true) ↔ IsEndColumn side.matrix.now lines c
  pub inner_rows : (r : ℕ) → (has_column side.inner.rows.words r ≡ true) ↔ IsInnerRow side.matrix.now lines r
  pub inner_columns : (c : ℕ) → (has_column side.inner.columns.words c ≡ true) ↔ IsInnerColumn side.matrix.now lines c

-- side one of a cut
abbrev pub side_of : LineSet → Lines
side_of lines = listed lines.rows lines.columns
