-- The two matrices whose sum is a matrix with a separation: each is a submatrix of it with some lines multiplied by -1. The sum has the
-- lines of the matrix in another order.
use Rattle.std.specs.Prelude.{◌<◌, ◌≤◌, ◌++◌, ◌*ℤ◌, filter, ℕ, ℤ, pos, Bool, true, false, List, [], ◌∷◌, map, length}
use Rattle.std.specs.List.{AllByRecursion}
use Rattle.cmr_base.specs.declared.line_set.LineSet.{LineSet}
use Rattle.cmr_base.specs.declared.separation.Connector.{Connector}
use Rattle.cmr_base.specs.declared.separation.Form.{Form}
use Rattle.cmr_base.specs.declared.separation.Form.TheVariants.{Delta, YForm, Mixed, Concentrated}
use Rattle.cmr_base.specs.declared.separation.Two.{Two}
use Rattle.cmr_base.specs.declared.separation.Three.{Three}
use Rattle.cmr_base.specs.Matrix.{Matrix, height, entry}
use Rattle.cmr_base.specs.LineSets.{first_lines}
use Rattle.cmr_base.specs.Signing.{IsSign}
use Rattle.sum_ops.specs.Children.{on_list}
use Rattle.compose.specs.declared.signed_line.SignedLine.{SignedLine}
use Rattle.compose.specs.declared.sides.Sides.{Sides}
use Rattle.compose.specs.declared.arrangement.Arrangement.{Arrangement}
use Rattle.compose.specs.declared.arrangement.Arranged.{Arranged}

abbrev pub signed : ℕ → ℤ → SignedLine
signed line sign = record { line = line; sign = sign }

-- the line with the sign 1
abbrev pub plain : ℕ → SignedLine
plain line = signed line (pos 1)

-- lines with the sign 1, after the lines of `first` and before the lines of `last`
abbrev pub framed : List SignedLine → List ℕ → List SignedLine → List SignedLine
framed first lines last = first ++ (map plain lines ++ last)

abbrev pub signed_entry : (ℕ → ℕ → ℤ) → SignedLine → SignedLine → ℤ
signed_entry M row column = row.sign *ℤ (column.sign *ℤ M row.line column.line)

-- the submatrix on these lines in their order, each line multiplied by its sign
abbrev pub signed_submatrix : Matrix → List SignedLine → List SignedLine → Matrix
signed_submatrix m rows columns = record { rows = map (λ row. map (signed_entry (entry m) row) columns) rows; width = length columns }

-- at most `bound` lines, each below the bound and with a sign
pub record AreSignedLines (bound : ℕ) (lines : List SignedLine) : Type 0 where
  pub few : length lines ≤ bound
  pub each : AllByRecursion (λ line. (line.line < bound) × IsSign line.sign) lines

-- the lines that are on a list, or the lines that are not
abbrev pub lines_on : Bool → List ℕ → List ℕ → List ℕ
lines_on inside list lines = filter (on_list inside list) lines

-- side one has the lines of the set, and side two has the other lines
abbrev pub sides_of : Matrix → LineSet → Sides
sides_of m one = record {
  rows_one = lines_on true one.rows (first_lines (height m));
  columns_one = lines_on true one.columns (first_lines m.width);
  rows_two = lines_on false one.rows (first_lines (height m));
  columns_two = lines_on false one.columns (first_lines m.width);
}

-- the signed lines of both matrices are lines of this one
pub record HasSignedLines (m : Matrix) (arrangement : Arrangement) : Type 0 where
  pub first_rows : AreSignedLines (height m) arrangement.first_rows
  pub first_columns : AreSignedLines m.width arrangement.first_columns
  pub second_rows : AreSignedLines (height m) arrangement.second_rows
  pub second_columns : AreSignedLines m.width arrangement.second_columns

-- the two matrices, and the order of the lines
abbrev pub arranged : Matrix → Arrangement → Arranged
arranged m arrangement = record {
  first = signed_submatrix m arrangement.first_rows arrangement.first_columns;
  second = signed_submatrix m arrangement.second_rows arrangement.second_columns;
  rows = arrangement.rows;
  columns = arrangement.columns;
}

-- ---- two-separations

-- `[A a]` is side two with column j; `[b; B]` is row i, multiplied by its entry in column j, and side one
abbrev pub two_sum_lines : (ℕ → ℕ → ℤ) → Sides → (i j : ℕ) → Arrangement
two_sum_lines M s i j = record {
  first_rows = framed [] s.rows_two [];
  first_columns = framed [] s.columns_two (plain j ∷ []);
  second_rows = framed (signed i (M i j) ∷ []) s.rows_one [];
  second_columns = framed [] s.columns_one [];
  rows = s.rows_two ++ s.rows_one;
  columns = s.columns_two ++ s.columns_one;
}

-- ---- three-separations of the forms delta, y and mixed

-- the rows of side one, then the rows of the second connector; its other row gets the sign that makes it equal to the corner's row in side
-- one
abbrev pub last_rows : (ℕ → ℕ → ℤ) → Bool → List ℕ → (first second : Connector) → List SignedLine
last_rows M true rows first second = framed [] rows (plain second.row ∷ [])
last_rows M false rows first second = framed [] rows (signed second.other (M second.other first.column *ℤ M second.row first.column) ∷ plain second.row ∷ [])

abbrev pub last_columns : (ℕ → ℕ → ℤ) → Bool → List ℕ → (first second : Connector) → List SignedLine
last_columns M true columns first second = framed [] columns (signed second.other (M first.row second.other *ℤ M first.row second.column) ∷ plain second.column ∷ [])
last_columns M false columns first second = framed [] columns (plain second.column ∷ [])

-- the rows of the first connector, each multiplied by its entry in the second connector's column, then the rows of side two
abbrev pub begin_rows : (ℕ → ℕ → ℤ) → Bool → List ℕ → (first second : Connector) → List SignedLine
begin_rows M true rows first second = framed (signed first.row (M first.row second.column) ∷ []) rows []
begin_rows M false rows first second = framed (signed first.row (M first.row second.column) ∷ signed first.other (M first.other second.column) ∷ []) rows []

-- the columns of the first connector, each multiplied by its entry in the second connector's row, then the columns of side two
abbrev pub begin_columns : (ℕ → ℕ → ℤ) → Bool → List ℕ → (first second : Connector) → List SignedLine
begin_columns M true columns first second = framed (signed first.column (M second.row first.column) ∷ signed first.other (M second.row first.other) ∷ []) columns []
begin_columns M false columns first second = framed (signed first.column (M second.row first.column) ∷ []) columns []

abbrev pub corner_lines : (ℕ → ℕ → ℤ) → (first_flat second_flat : Bool) → Sides → (first second : Connector) → Arrangement
corner_lines M first_flat second_flat s first second = record {
  first_rows = last_rows M second_flat s.rows_one first second;
  first_columns = last_columns M second_flat s.columns_one first second;
  second_rows = begin_rows M first_flat s.rows_two first second;
  second_columns = begin_columns M first_flat s.columns_two first second;
  rows = s.rows_one ++ s.rows_two;
  columns = s.columns_one ++ s.columns_two;
}

-- ---- three-separations of the concentrated form

-- the lines of a side without the lines of a list
abbrev pub others : List ℕ → List ℕ → List ℕ
others excluded lines = lines_on false excluded lines

-- both matrices contain the connectors: the first matrix ends with them, and the second matrix begins with them
abbrev pub core_lines : Sides → (first second : Connector) → Arrangement
core_lines s first second = record {
  first_rows = framed [] (others (first.row ∷ []) s.rows_one) (plain first.row ∷ plain second.row ∷ plain second.other ∷ []);
  first_columns = framed [] (others (first.column ∷ first.other ∷ []) s.columns_one) (plain first.column ∷ plain first.other ∷ plain second.column ∷ []);
  second_rows = framed (plain first.row ∷ plain second.row ∷ plain second.other ∷ []) (others (second.row ∷ second.other ∷ []) s.rows_two) [];
  second_columns = framed (plain first.column ∷ plain first.other ∷ plain second.column ∷ []) (others (second.column ∷ []) s.columns_two) [];
  rows = others (first.row ∷ []) s.rows_one ++ (first.row ∷ second.row ∷ second.other ∷ others (second.row ∷ second.other ∷ []) s.rows_two);
  columns = others (first.column ∷ first.other ∷ []) s.columns_one ++ (first.column ∷ first.other ∷ second.column ∷ others (second.column ∷ []) s.columns_two);
}

-- ---- arrangements of a matrix with a separation

abbrev pub two_arrangement : Matrix → Two → Arrangement
two_arrangement m two = two_sum_lines (entry m) (sides_of m two.side) two.row two.column

abbrev pub three_lines : (ℕ → ℕ → ℤ) → Form → Sides → (first second : Connector) → Arrangement
three_lines M Delta s first second = corner_lines M true true s first second
three_lines M YForm s first second = corner_lines M false false s first second
three_lines M Mixed s first second = corner_lines M true false s first second
three_lines M Concentrated s first second = core_lines s first second

abbrev pub three_arrangement : Matrix → Three → Arrangement
three_arrangement m three = three_lines (entry m) three.form (sides_of m three.side) three.first three.second

-- a row, a column and one more line of the matrix: a column if the connector is flat, a row if it is tall
abbrev pub HasConnectorLines : Bool → Matrix → Connector → Type 0
HasConnectorLines true m c = (c.row < height m) × (c.column < m.width) × (c.other < m.width)
HasConnectorLines false m c = (c.row < height m) × (c.column < m.width) × (c.other < height m)
