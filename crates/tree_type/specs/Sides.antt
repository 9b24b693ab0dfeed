-- The sides of the separations that nodes name, as lists of lines, and the demands of each rule. If a sum keeps all these
-- rules, its lines have a separation.
use Rattle.std.specs.Prelude.{◌≡◌, ◌≢◌, ◌≤◌, ◌+◌, ◌==◌, not, ◌||◌, Bool, true, false, ℕ, ℤ, pos, List, [], ◌∷◌, length, filter, Contains}
use Rattle.std.specs.List.{list_any}
use Rattle.cmr_base.specs.declared.line_set.LineSet.{LineSet}
use Rattle.cmr_base.specs.declared.separation.Two.{Two}
use Rattle.cmr_base.specs.declared.separation.Connector.{Connector}
use Rattle.cmr_base.specs.declared.separation.Three.{Three}
use Rattle.cmr_base.specs.Separations as separations
use Rattle.cmr_base.specs.Separations.{product_at, first_is_flat, second_is_flat, upper_block, lower_block, HaveCornerSign}

-- the number is in the list
abbrev pub is_among : List ℕ → ℕ → Bool
is_among lines line = list_any (λ other. line == other) lines

-- the lines in a set, and the lines outside it
abbrev pub inside : List ℕ → List ℕ → List ℕ
inside set lines = filter (is_among set) lines

abbrev pub outside : List ℕ → List ℕ → List ℕ
outside set lines = filter (λ line. not (is_among set line)) lines

-- the same with further lines
abbrev pub inside_with : List ℕ → List ℕ → List ℕ → List ℕ
inside_with set more lines = filter (λ line. is_among set line || is_among more line) lines

abbrev pub outside_with : List ℕ → List ℕ → List ℕ → List ℕ
outside_with set more lines = filter (λ line. not (is_among set line) || is_among more line) lines

-- two sides
pub record Sides : Type 0 where
  pub rows_one : List ℕ
  pub columns_one : List ℕ
  pub rows_two : List ℕ
  pub columns_two : List ℕ

-- side one has the lines in the set, and side two has the others
abbrev pub sides : LineSet → LineSet → Sides
sides lines one = record {
  rows_one = inside one.rows lines.rows;
  columns_one = inside one.columns lines.columns;
  rows_two = outside one.rows lines.rows;
  columns_two = outside one.columns lines.columns;
}

-- each side has at least `low` lines
pub record HaveLines (low : ℕ) (s : Sides) : Type 0 where
  pub one : low ≤ length s.rows_one + length s.columns_one
  pub two : low ≤ length s.rows_two + length s.columns_two

-- each entry of these rows and columns has a given value
abbrev pub AreEntries : (ℕ → ℕ → ℤ) → List ℕ → List ℕ → (ℕ → ℕ → ℤ) → Type 0
AreEntries M rows columns to_be = (r c : ℕ) → Contains rows r → Contains columns c → M r c ≡ to_be r c

-- Two-separations: the rows of side one are 0 in the columns of side two. The other block is made from one row and one column
-- of it that cross in a nonzero.

pub record IsReference (M : ℕ → ℕ → ℤ) (s : Sides) (i j : ℕ) : Type 0 where
  pub row : Contains s.rows_two i
  pub column : Contains s.columns_one j
  pub nonzero : M i j ≢ pos 0

pub record AreTwoBlocks (M : ℕ → ℕ → ℤ) (s : Sides) (i j : ℕ) : Type 0 where
  pub upper : AreEntries M s.rows_one s.columns_two (λ r c. pos 0)
  pub lower : AreEntries M s.rows_two s.columns_one (product_at M i j)

-- the lines of the children: side one with the row of the reference, and side two with its column
abbrev pub two_one : LineSet → Two → LineSet
two_one lines two = record {
  rows = inside_with two.side.rows (two.row ∷ []) lines.rows;
  columns = inside two.side.columns lines.columns;
}

abbrev pub two_two : LineSet → Two → LineSet
two_two lines two = record {
  rows = outside two.side.rows lines.rows;
  columns = outside_with two.side.columns (two.column ∷ []) lines.columns;
}

-- Three-separations: both blocks are made from the connectors, as the form requires.

-- a row, a column and a further line of a side: a column if the connector is flat, a row if it is tall
abbrev pub HasConnector : Bool → List ℕ → List ℕ → Connector → Type 0
HasConnector true rows columns c = Contains rows c.row × Contains columns c.column × Contains columns c.other
HasConnector false rows columns c = Contains rows c.row × Contains columns c.column × Contains rows c.other

abbrev pub connector_rows : Bool → Connector → List ℕ
connector_rows true c = c.row ∷ []
connector_rows false c = c.row ∷ c.other ∷ []

abbrev pub connector_columns : Bool → Connector → List ℕ
connector_columns true c = c.column ∷ c.other ∷ []
connector_columns false c = c.column ∷ []

-- the first connector in side one and the second in side two, with the values of the form
pub record AreConnectorsOfSides (M : ℕ → ℕ → ℤ) (s : Sides) (t : Three) : Type 0 where
  pub first : HasConnector (first_is_flat t.form) s.rows_one s.columns_one t.first
  pub second : HasConnector (second_is_flat t.form) s.rows_two s.columns_two t.second
  pub values : separations.AreConnectors M t.form t.first t.second

-- the signs of the corners, if the form has them
abbrev pub HasCornerSign : (ℕ → ℕ → ℤ) → Three → Type 0
HasCornerSign M t = HaveCornerSign M t.form t.first t.second

pub record AreThreeBlocks (M : ℕ → ℕ → ℤ) (s : Sides) (t : Three) : Type 0 where
  pub upper : AreEntries M s.rows_one s.columns_two (upper_block M t.form t.first t.second)
  pub lower : AreEntries M s.rows_two s.columns_one (lower_block M t.form t.first t.second)

-- the lines of the children: each side with the connector of the other
abbrev pub three_one : LineSet → Three → LineSet
three_one lines t = record {
  rows = inside_with t.side.rows (connector_rows (second_is_flat t.form) t.second) lines.rows;
  columns = inside_with t.side.columns (connector_columns (second_is_flat t.form) t.second) lines.columns;
}

abbrev pub three_two : LineSet → Three → LineSet
three_two lines t = record {
  rows = outside_with t.side.rows (connector_rows (first_is_flat t.form) t.first) lines.rows;
  columns = outside_with t.side.columns (connector_columns (first_is_flat t.form) t.first) lines.columns;
}
