-- Cuts: two sides of at least four lines each, with blocks between them that are products and not 0. Groups of lines that cuts
-- do not separate.
use Rattle.std.specs.Prelude.{◌≡◌, ◌≢◌, ◌<◌, ◌+◌, ℕ, pos, true, false, length, slice_index_or}
use Rattle.cmr_base.specs.declared.line.Line.{Line}
use Rattle.cmr_base.specs.declared.line.Line.TheVariants.{Row, Column}
use Rattle.cmr_base.specs.LineSets.{first_lines}
use Rattle.cmr_base.specs.Matrix.{Matrix, height, entry}
use Rattle.cmr_base.specs.Separations.{AreEnough, Lines, product_at}
use Rattle.cmr_base.specs.Seeds.{IsClosed, IsLine}
use Rattle.cuts.specs.declared.corners.Corners.{Corners}
use Rattle.cuts.specs.declared.groups.Groups.{Groups}

-- the corners are in the matrix
pub record AreInside (m : Matrix) (c : Corners) : Type 0 where
  pub row_one : c.one.row < height m
  pub column_one : c.one.column < m.width
  pub row_two : c.two.row < height m
  pub column_two : c.two.column < m.width

-- side one is T and has row i and column p, side two has row k and column j; the blocks are the products that these make
pub record IsCutAt (m : Matrix) (c : Corners) (T : Lines) : Type 0 where
  pub closed : IsClosed (height m) m.width (entry m) (product_at (entry m) c.one.row c.two.column) (product_at (entry m) c.two.row c.one.column) T
  pub row_one : T (Row c.one.row) ≡ true
  pub column_one : T (Column c.one.column) ≡ true
  pub row_two : T (Row c.two.row) ≡ false
  pub column_two : T (Column c.two.column) ≡ false
  pub enough : AreEnough (first_lines (height m)) (first_lines m.width) T 4

-- a cut at some corners, with a nonzero in each block
pub record IsCut (m : Matrix) (T : Lines) : Type 0 where
  pub corners : Corners
  pub are_inside : AreInside m corners
  pub upper : entry m corners.one.row corners.two.column ≢ pos 0
  pub lower : entry m corners.two.row corners.one.column ≢ pos 0
  pub cut : IsCutAt m corners T

-- ---- groups

-- the name of a line, at its position in the list of names, rows first
abbrev pub name_of : Matrix → Groups → Line → ℕ
name_of m groups (Row r) = slice_index_or groups.names.items r 0
name_of m groups (Column c) = slice_index_or groups.names.items (height m + c) 0

abbrev pub HasNames : Matrix → Groups → Type 0
HasNames m groups = length groups.names.items ≡ height m + m.width

-- lines of one name are on one side of each cut that satisfies P
abbrev pub HoldTogether : (Lines → Type 0) → Matrix → Groups → Type 0
HoldTogether P m groups = (T : Lines) → P T → (x y : Line) → IsLine (height m) m.width x → IsLine (height m) m.width y → name_of m groups x ≡ name_of m groups y → T x ≡ T y
