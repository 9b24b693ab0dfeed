-- Separations: two sides of the lines of a matrix, so that few lines determine the entries between the sides (Schrijver, Theory of
-- Linear and Integer Programming, chapter 19; Truemper, Matroid Decomposition). A test represents a side: side one has the lines
-- for which the test is true, side two the other lines.
use Rattle.std.specs.Prelude.{◌≡◌, ◌≢◌, ◌<◌, ◌≤◌, ◌+◌, ◌+ℤ◌, ◌-ℤ◌, ◌*ℤ◌, ◌==◌, ◌||◌, not, filter, ℕ, ℤ, pos, Bool, true, false, List, [], ◌∷◌, length, Contains}
use Rattle.std.specs.List.{AllByRecursion, list_any}
use Rattle.cmr_base.specs.declared.line.Line.{Line}
use Rattle.cmr_base.specs.declared.line.Line.TheVariants.{Row, Column}
use Rattle.cmr_base.specs.declared.separation.Connector.{Connector}
use Rattle.cmr_base.specs.declared.separation.Form.{Form}
use Rattle.cmr_base.specs.declared.separation.Form.TheVariants.{Delta, YForm, Mixed, Concentrated}
use Rattle.cmr_base.specs.LineSets.{first_lines}
use Rattle.cmr_base.specs.Matrix.{Matrix, height, entry}
use Rattle.cmr_base.specs.Reductions.{HasLine}
use Rattle.cmr_base.specs.Signing.{IsSign}

-- a set of lines
abbrev pub Lines : Type 0
Lines = Line → Bool

-- the lines of two lists
abbrev pub listed : List ℕ → List ℕ → Lines
listed rows columns (Row row) = list_any (λ other. other == row) rows
listed rows columns (Column column) = list_any (λ other. other == column) columns

abbrev pub opposite : Lines → Lines
opposite lines line = not (lines line)

abbrev pub is_same_line : Line → Line → Bool
is_same_line (Row row) (Row other) = other == row
is_same_line (Row row) (Column other) = false
is_same_line (Column column) (Row other) = false
is_same_line (Column column) (Column other) = other == column

-- the set with more lines
abbrev pub with_lines : Lines → List Line → Lines
with_lines lines more line = lines line || list_any (is_same_line line) more

-- the rows, or the columns, that are in the set
abbrev pub rows_in : Lines → List ℕ → List ℕ
rows_in lines rows = filter (λ row. lines (Row row)) rows

abbrev pub columns_in : Lines → List ℕ → List ℕ
columns_in lines columns = filter (λ column. lines (Column column)) columns

-- the number of lines of the set among these rows and columns
abbrev pub count_lines_in : Lines → List ℕ → List ℕ → ℕ
count_lines_in lines rows columns = length (rows_in lines rows) + length (columns_in lines columns)

-- The entries between the sides: `upper` in the rows of side one and the columns of side two, `lower` in the rows of side two and
-- the columns of side one.
pub record HasBlocks (M : ℕ → ℕ → ℤ) (rows columns : List ℕ) (side : Lines) (upper_entry lower_entry : ℕ → ℕ → ℤ) : Type 0 where
  pub upper : (r c : ℕ) → Contains rows r → Contains columns c → side (Row r) ≡ true → side (Column c) ≡ false → M r c ≡ upper_entry r c
  pub lower : (r c : ℕ) → Contains rows r → Contains columns c → side (Row r) ≡ false → side (Column c) ≡ true → M r c ≡ lower_entry r c

-- at least `least` lines on each side
pub record AreEnough (rows columns : List ℕ) (side : Lines) (least : ℕ) : Type 0 where
  pub one : least ≤ count_lines_in side rows columns
  pub two : least ≤ count_lines_in (opposite side) rows columns

abbrev pub zeros : ℕ → ℕ → ℤ
zeros r c = pos 0

-- the block of rank one that column j and row i make, if they cross in a nonzero
abbrev pub product_at : (ℕ → ℕ → ℤ) → ℕ → ℕ → ℕ → ℕ → ℤ
product_at M i j r c = M r j *ℤ (M i c *ℤ M i j)

-- each line of a list is among these rows and columns, and on the side
abbrev pub AreOn : List ℕ → List ℕ → Lines → Bool → List Line → Type 0
AreOn rows columns side one lines = AllByRecursion (λ line. HasLine rows columns line × (side line ≡ one)) lines

-- ---- two-separations

-- Row i of side two and column j of side one cross in a nonzero and make the lower block; the upper block is zero.
pub record IsTwoSeparation (M : ℕ → ℕ → ℤ) (rows columns : List ℕ) (side : Lines) (i j : ℕ) : Type 0 where
  pub one : AreOn rows columns side true (Column j ∷ [])
  pub two : AreOn rows columns side false (Row i ∷ [])
  pub nonzero : M i j ≢ pos 0
  pub blocks : HasBlocks M rows columns side zeros (product_at M i j)
  pub enough : AreEnough rows columns side 2

-- ---- three-separations

-- the kind of each of the two connectors of each form: flat or tall
abbrev pub first_is_flat : Form → Bool
first_is_flat Delta = true
first_is_flat YForm = false
first_is_flat Mixed = true
first_is_flat Concentrated = true

abbrev pub second_is_flat : Form → Bool
second_is_flat Delta = true
second_is_flat YForm = false
second_is_flat Mixed = false
second_is_flat Concentrated = false

-- the lines of a connector: the row and the column of its corner, and one more column if it is flat, one more row if it is tall
abbrev pub connector_lines : Bool → Connector → List Line
connector_lines true connector = Row connector.row ∷ Column connector.column ∷ Column connector.other ∷ []
connector_lines false connector = Row connector.row ∷ Column connector.column ∷ Row connector.other ∷ []

-- the other line of a connector is 0 in the connector's own corner line, and not 0 in the corner line of the other connector, whose
-- corner is (row, column)
abbrev pub IsTied : (ℕ → ℕ → ℤ) → Bool → Connector → ℕ → ℕ → Type 0
IsTied M true connector row column = (M connector.row connector.other ≡ pos 0) × (M row connector.other ≢ pos 0)
IsTied M false connector row column = (M connector.other connector.column ≡ pos 0) × (M connector.other column ≢ pos 0)

-- For the forms delta, y and mixed: the two entries at which the lines of one corner cross the lines of the other are not 0, and
-- the other line of each connector is tied.
pub record AreCrossing (M : ℕ → ℕ → ℤ) (first_flat second_flat : Bool) (first second : Connector) : Type 0 where
  pub upper : M first.row second.column ≢ pos 0
  pub lower : M second.row first.column ≢ pos 0
  pub first_tied : IsTied M first_flat first second.row second.column
  pub second_tied : IsTied M second_flat second first.row first.column

-- the determinant of the four entries at which the rows of a tall connector cross the columns of a flat one
abbrev pub core_determinant : (ℕ → ℕ → ℤ) → Connector → Connector → ℤ
core_determinant M first second = M second.row first.column *ℤ M second.other first.other -ℤ M second.row first.other *ℤ M second.other first.column

-- For the concentrated form: the first connector's row is not 0 in its two columns, the second connector's column is not 0 in its
-- two rows, and the four entries at which these columns and rows cross have the determinant 1 or -1.
pub record AreConcentrated (M : ℕ → ℕ → ℤ) (first second : Connector) : Type 0 where
  pub first_other : M first.row first.other ≢ pos 0
  pub second_other : M second.other second.column ≢ pos 0
  pub columns_increase : first.column < first.other
  pub rows_increase : second.row < second.other
  pub determinant : IsSign (core_determinant M first second)

-- the condition that ties the connectors of each form
abbrev pub AreTied : (ℕ → ℕ → ℤ) → Form → Connector → Connector → Type 0
AreTied M Delta first second = AreCrossing M true true first second
AreTied M YForm first second = AreCrossing M false false first second
AreTied M Mixed first second = AreCrossing M true false first second
AreTied M Concentrated first second = AreConcentrated M first second

-- The corners of the two connectors are not 0, and they are tied as the form says.
pub record AreConnectors (M : ℕ → ℕ → ℤ) (form : Form) (first second : Connector) : Type 0 where
  pub first_corner : M first.row first.column ≢ pos 0
  pub second_corner : M second.row second.column ≢ pos 0
  pub tied : AreTied M form first second

-- The entry that two columns and two rows make. They cross in four entries with the determinant d, which is 1 or -1. Each row is
-- the linear combination of the two rows that has the given entries in the two columns.
abbrev pub spread : (d x y z w row_first row_other column_first column_other : ℤ) → ℤ
spread d x y z w row_first row_other column_first column_other =
    d *ℤ (row_first *ℤ (w *ℤ column_first -ℤ y *ℤ column_other) +ℤ row_other *ℤ (x *ℤ column_other -ℤ z *ℤ column_first))

-- the block of rank two that the columns of the first connector and the rows of the second make
abbrev pub spread_at : (ℕ → ℕ → ℤ) → Connector → Connector → ℕ → ℕ → ℤ
spread_at M first second r c =
    spread (core_determinant M first second)
    (M second.row first.column) (M second.row first.other) (M second.other first.column) (M second.other first.other)
    (M r first.column) (M r first.other) (M second.row c) (M second.other c)

-- The entries between the sides. For the forms delta, y and mixed both blocks have rank one: the first connector's row and the
-- second connector's column make the upper block, the second connector's row and the first connector's column make the lower block.
-- For the concentrated form the upper block is zero.
abbrev pub upper_block : (ℕ → ℕ → ℤ) → Form → Connector → Connector → ℕ → ℕ → ℤ
upper_block M Delta first second = product_at M first.row second.column
upper_block M YForm first second = product_at M first.row second.column
upper_block M Mixed first second = product_at M first.row second.column
upper_block M Concentrated first second = zeros

abbrev pub lower_block : (ℕ → ℕ → ℤ) → Form → Connector → Connector → ℕ → ℕ → ℤ
lower_block M Delta first second = product_at M second.row first.column
lower_block M YForm first second = product_at M second.row first.column
lower_block M Mixed first second = product_at M second.row first.column
lower_block M Concentrated first second = spread_at M first second

-- The first connector is in side one, the second in side two.
pub record IsThreeSeparation (M : ℕ → ℕ → ℤ) (rows columns : List ℕ) (side : Lines) (form : Form) (first second : Connector) : Type 0 where
  pub one : AreOn rows columns side true (connector_lines (first_is_flat form) first)
  pub two : AreOn rows columns side false (connector_lines (second_is_flat form) second)
  pub connectors : AreConnectors M form first second
  pub blocks : HasBlocks M rows columns side (upper_block M form first second) (lower_block M form first second)
  pub enough : AreEnough rows columns side 4

-- the product of the four entries at which the corners' lines cross; if it is -1, these lines are a violator
abbrev pub corner_product : (ℕ → ℕ → ℤ) → Connector → Connector → ℤ
corner_product M first second = (M first.row first.column *ℤ M first.row second.column) *ℤ (M second.row first.column *ℤ M second.row second.column)

-- for the forms delta, y and mixed the corner product is 1; the concentrated form has no corner product
abbrev pub HaveCornerSign : (ℕ → ℕ → ℤ) → Form → Connector → Connector → Type 0
HaveCornerSign M Delta first second = corner_product M first second ≡ pos 1
HaveCornerSign M YForm first second = corner_product M first second ≡ pos 1
HaveCornerSign M Mixed first second = corner_product M first second ≡ pos 1
HaveCornerSign M Concentrated first second = Unit {0}

-- ---- the children of a separation

-- side one with lines of side two, and side two with lines of side one
abbrev pub child_one : Lines → List Line → Lines
child_one side second = with_lines side second

abbrev pub child_two : Lines → List Line → Lines
child_two side first = with_lines (opposite side) first

-- ---- of whole matrices

-- a two-separation of all lines of the matrix
abbrev pub TwoSeparates : Matrix → Lines → ℕ → ℕ → Type 0
TwoSeparates m side i j = IsTwoSeparation (entry m) (first_lines (height m)) (first_lines m.width) side i j

abbrev pub HasNoTwoSeparation : Matrix → Type 0
HasNoTwoSeparation m = (i j : ℕ) (side : Lines) → ¬ (TwoSeparates m side i j)

-- a three-separation of all lines of the matrix
abbrev pub ThreeSeparates : Matrix → Lines → Form → Connector → Connector → Type 0
ThreeSeparates m side form first second = IsThreeSeparation (entry m) (first_lines (height m)) (first_lines m.width) side form first second

abbrev pub HasNoThreeSeparation : Matrix → Type 0
HasNoThreeSeparation m = (form : Form) (first second : Connector) (side : Lines) → ¬ (ThreeSeparates m side form first second)
