-- Sets of rows and columns as bits.
use Rattle.std.specs.Prelude.{◌≡◌, ℕ}
use Rattle.cmr_base.specs.declared.line.Line.TheVariants.{Row, Column}
use Rattle.cmr_base.specs.declared.line_mask.LineMask.{LineMask}
use Rattle.cmr_base.specs.ColumnSets.{has_column}
use Rattle.cmr_base.specs.Matrix.{Matrix, height}
use Rattle.cmr_base.specs.Separations.{Lines}

-- the lines of the set
abbrev pub as_set : LineMask → Lines
as_set mask (Row row) = has_column mask.rows.words row
as_set mask (Column column) = has_column mask.columns.words column

-- the set has room for these numbers of rows and columns
pub record IsMask (m n : ℕ) (mask : LineMask) : Type 0 where
  pub rows : mask.rows.size ≡ m
  pub columns : mask.columns.size ≡ n

-- the set has room for the lines of a matrix
abbrev pub IsMaskOf : Matrix → LineMask → Type 0
IsMaskOf m mask = IsMask (height m) m.width mask

-- both sets have room for the same lines
abbrev pub AreAlike : LineMask → LineMask → Type 0
AreAlike one two = IsMask one.rows.size one.columns.size two
