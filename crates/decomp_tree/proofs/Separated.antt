-- Separations of a node's submatrix are separations of its lines.
use Rattle.std.proofs.Common.{◌≡◌, ◌≢◌, ◌<◌, ◌∙◌, ℕ, ℤ, pos, ◌*ℤ◌, Bool, true, false, not, List, length, filter, nat_eq, Contains, refl, ap, ap₂, sym, subst, arith}
use Rattle.std.specs.List.{list_any}
use Rattle.std.specs.List.Sorted.{IsStrictlyIncreasing}
use Rattle.std.proofs.lemmas.List.Kept.{IsStrictlyIncreasing-filter}
use Rattle.cmr_base.specs.declared.line.Line.TheVariants.{Row, Column}
use Rattle.cmr_base.specs.declared.line_set.LineSet.{LineSet}
use Rattle.cmr_base.specs.declared.separation.Connector.{Connector}
use Rattle.cmr_base.specs.declared.separation.Form.{Form}
use Rattle.cmr_base.specs.declared.separation.Form.TheVariants.{Delta, YForm, Mixed, Concentrated}
use Rattle.cmr_base.specs.declared.separation.Three.{Three}
use Rattle.cmr_base.specs.Matrix.{Matrix, entry, IsMatrix}
use Rattle.cmr_base.specs.LineSets.{IsRowSet, IsColumnSet, first_lines}
use Rattle.cmr_base.specs.Signing.{IsSign}
use Rattle.cmr_base.specs.CyclePlaces.{HasNoCycleFault}
use Rattle.cmr_base.specs.Separations as separations
use Rattle.cmr_base.specs.Separations.{Lines, listed, AreOn, AreEnough, IsTied, AreCrossing, AreConcentrated, AreTied, core_determinant, corner_product, HaveCornerSign, product_at, spread_at, upper_block, lower_block, first_is_flat, second_is_flat, connector_lines, IsTwoSeparation, IsThreeSeparation}
use Rattle.cmr_base.proofs.LineCounts.{inside_is, outside_is}
use Rattle.cmr_base.proofs.ListedLines.{in_from_listed, listed_from_in, contains_first_lines, first_lines_contain}
use Rattle.cmr_base.proofs.ListsWithout.{place_of, place_is}
use Rattle.cmr_base.proofs.RemovedLines.{first_lines_increase, in_first_lines}
use Rattle.cmr_base.proofs.RowLists.{filter_in, in_filter}
use Rattle.cmr_base.proofs.Submatrices.{increasing_places}
use Rattle.cmr_base.proofs.Places.{increasing_same}
use Rattle.camion_sign.proofs.FullSquares.{full_squares}
use Rattle.tree_type.specs.Invariant.{AreLines}
use Rattle.tree_type.specs.Sides.{is_among, inside, outside, sides, HaveLines, IsReference, AreTwoBlocks, HasConnector, AreConnectorsOfSides, HasCornerSign, AreThreeBlocks}
use Rattle.tree_type.specs.Soundness.{part}
use Rattle.decomp_tree.specs.Shapes.{numbered, set_in, connector_in, three_in}
use Rattle.decomp_tree.proofs.Numbered.{entry_in, height_in, among_named, from_inside, from_outside, to_inside, to_outside, counted_all}

-- a increasing list lower a bound has the lines that it lists
listed_lines : (xs : List ℕ) (bound : ℕ) → IsStrictlyIncreasing xs → ((k : ℕ) → k < length xs → numbered xs k < bound) → xs ≡ filter (λ x. list_any (λ y. nat_eq y x) xs) (first_lines bound)
listed_lines xs bound increases low = increasing_same xs (filter (λ x. list_any (λ y. nat_eq y x) xs) (first_lines bound)) increases
    (IsStrictlyIncreasing-filter (λ x. list_any (λ y. nat_eq y x) xs) (first_lines bound) (first_lines_increase bound))
    (λ x h. let w = place_is x xs h in
    filter_in (λ z. list_any (λ y. nat_eq y z) xs) x (first_lines bound) (in_first_lines bound x (subst (λ z. z < bound) w.there (low (place_of x xs) w.in_range))) (listed_from_in x xs h))
    (λ x h. in_from_listed x xs (in_filter (λ z. list_any (λ y. nat_eq y z) xs) x (first_lines bound) h).1)

-- sides of the submatrix, as sides of the lines
module _ (m : Matrix) (lines : LineSet) (are : AreLines m lines) (S : Lines) where
  abbrev pub side : LineSet
  side = set_in lines (record { rows = filter (λ r. S (Row r)) (first_lines (length lines.rows)); columns = filter (λ c. S (Column c)) (first_lines (length lines.columns)) })

  -- the entries of two sides
  pub right_entries : (to_be : ℕ → ℕ → ℤ) (rule : ℕ → ℕ → ℤ)
      → ((r c : ℕ) → r < length lines.rows → c < length lines.columns → S (Row r) ≡ true → S (Column c) ≡ false → entry (part m lines) r c ≡ rule r c)
      → ((r c : ℕ) → r < length lines.rows → c < length lines.columns → rule r c ≡ to_be (numbered lines.rows r) (numbered lines.columns c))
      → (r c : ℕ) → Contains (inside side.rows lines.rows) r → Contains (outside side.columns lines.columns) c → entry m r c ≡ to_be r c
  right_entries to_be rule closed same r c h k =
      let a = from_inside lines.rows are.rows.increasing (λ r. S (Row r)) r h in
      let b = from_outside lines.columns are.columns.increasing (λ c. S (Column c)) c k in
      ap₂ (entry m) a.2 b.2 ∙ sym (entry_in m lines a.0 b.0 a.1 b.1) ∙ closed a.0 b.0 a.1 b.1 a.3 b.3 ∙ same a.0 b.0 a.1 b.1 ∙ ap₂ to_be (sym a.2) (sym b.2)

  pub below_entries : (to_be : ℕ → ℕ → ℤ) (rule : ℕ → ℕ → ℤ)
      → ((r c : ℕ) → r < length lines.rows → c < length lines.columns → S (Row r) ≡ false → S (Column c) ≡ true → entry (part m lines) r c ≡ rule r c)
      → ((r c : ℕ) → r < length lines.rows → c < length lines.columns → rule r c ≡ to_be (numbered lines.rows r) (numbered lines.columns c))
      → (r c : ℕ) → Contains (outside side.rows lines.rows) r → Contains (inside side.columns lines.columns) c → entry m r c ≡ to_be r c
  below_entries to_be rule closed same r c h k =
      let a = from_outside lines.rows are.rows.increasing (λ r. S (Row r)) r h in
      let b = from_inside lines.columns are.columns.increasing (λ c. S (Column c)) c k in
      ap₂ (entry m) a.2 b.2 ∙ sym (entry_in m lines a.0 b.0 a.1 b.1) ∙ closed a.0 b.0 a.1 b.1 a.3 b.3 ∙ same a.0 b.0 a.1 b.1 ∙ ap₂ to_be (sym a.2) (sym b.2)

  -- the numbers of lines
  pub enough : (low : ℕ) → AreEnough (first_lines (length lines.rows)) (first_lines (length lines.columns)) S low → HaveLines low (sides lines side)
  enough low both =
      let a = counted_all (is_among side.rows) (λ r. S (Row r)) lines.rows (among_named lines.rows are.rows.increasing (λ r. S (Row r))) in
      let b = counted_all (is_among side.columns) (λ c. S (Column c)) lines.columns (among_named lines.columns are.columns.increasing (λ c. S (Column c))) in
      let c = counted_all (λ x. not (is_among side.rows x)) (λ r. not (S (Row r))) lines.rows (λ k l. ap not (among_named lines.rows are.rows.increasing (λ r. S (Row r)) k l)) in
      let d = counted_all (λ x. not (is_among side.columns x)) (λ c. not (S (Column c))) lines.columns (λ k l. ap not (among_named lines.columns are.columns.increasing (λ c. S (Column c)) k l)) in
      let one = both.one in
      let two = both.two in
      let one_is = inside_is (length lines.rows) (length lines.columns) S in
      let two_is = outside_is (length lines.rows) (length lines.columns) S in
      record { one = omega (arith, a, b, one, one_is); two = omega (arith, c, d, two, two_is) }

  -- what is made from a column and a row is made from them by their other numbers
  pub made : (i j r c : ℕ) → i < length lines.rows → j < length lines.columns → r < length lines.rows → c < length lines.columns
      → product_at (entry (part m lines)) i j r c ≡ product_at (entry m) (numbered lines.rows i) (numbered lines.columns j) (numbered lines.rows r) (numbered lines.columns c)
  made i j r c hi hj hr hc = rw (entry_in m lines r j hr hj, entry_in m lines i c hi hc, entry_in m lines i j hi hj) refl

-- the side of a separation that was found, by its numbers in the whole matrix
pub named_side : (m : Matrix) (lines : LineSet) (are : AreLines m lines) (one : LineSet) → IsRowSet (part m lines) one.rows
    → IsColumnSet (part m lines) one.columns → set_in lines one ≡ side m lines are (listed one.rows one.columns)
named_side m lines are one rows columns = ap (set_in lines) (ap₂ (λ (a b : List ℕ). both a b)
    (listed_lines one.rows (length lines.rows) rows.increasing (subst (λ n. (k : ℕ) → k < length one.rows → numbered one.rows k < n) (height_in m lines) rows.in_range))
    (listed_lines one.columns (length lines.columns) columns.increasing columns.in_range))
  where
    both : List ℕ → List ℕ → LineSet
    both a b = record { rows = a; columns = b }

-- ---- two-separations

module _ (m : Matrix) (lines : LineSet) (are : AreLines m lines) (i j : ℕ) (S : Lines) (separated : IsTwoSeparation (entry (part m lines)) (first_lines (length lines.rows)) (first_lines (length lines.columns)) S i j) where
  row_in : i < length lines.rows
  row_in = first_lines_contain (length lines.rows) i separated.two.0.0

  column_in : j < length lines.columns
  column_in = first_lines_contain (length lines.columns) j separated.one.0.0

  pub two_short : HaveLines 2 (sides lines (side m lines are S))
  two_short = enough m lines are S 2 separated.enough

  pub two_reference : IsReference (entry m) (sides lines (side m lines are S)) (numbered lines.rows i) (numbered lines.columns j)
  two_reference = record {
    row = to_outside lines.rows are.rows.increasing (λ r. S (Row r)) i row_in separated.two.0.1;
    column = to_inside lines.columns are.columns.increasing (λ c. S (Column c)) j column_in separated.one.0.1;
    nonzero = λ z. separated.nonzero (entry_in m lines i j row_in column_in ∙ z);
  }

  pub two_blocks : AreTwoBlocks (entry m) (sides lines (side m lines are S)) (numbered lines.rows i) (numbered lines.columns j)
  two_blocks = record {
    upper = right_entries m lines are S (λ r c. pos 0) (λ r c. pos 0)
        (λ r c h k. separated.blocks.upper r c (contains_first_lines (length lines.rows) r h) (contains_first_lines (length lines.columns) c k)) (λ r c h k. refl);
    lower = below_entries m lines are S (product_at (entry m) (numbered lines.rows i) (numbered lines.columns j)) (product_at (entry (part m lines)) i j)
        (λ r c h k. separated.blocks.lower r c (contains_first_lines (length lines.rows) r h) (contains_first_lines (length lines.columns) c k))
        (λ r c h k. made m lines are S i j r c row_in column_in h k);
  }

-- ---- three-separations

module _ (m : Matrix) (lines : LineSet) (are : AreLines m lines) (S : Lines) where
  abbrev rows : List ℕ
  rows = first_lines (length lines.rows)

  abbrev columns : List ℕ
  columns = first_lines (length lines.columns)

  connector_one : (flat : Bool) (c : Connector) → AreOn rows columns S true (connector_lines flat c)
      → HasConnector flat (inside (side m lines are S).rows lines.rows) (inside (side m lines are S).columns lines.columns) (connector_in flat lines c)
  connector_one true c h = (
    to_inside lines.rows are.rows.increasing (λ r. S (Row r)) c.row (first_lines_contain (length lines.rows) c.row h.0.0) h.0.1,
    to_inside lines.columns are.columns.increasing (λ x. S (Column x)) c.column (first_lines_contain (length lines.columns) c.column h.1.0.0) h.1.0.1,
    to_inside lines.columns are.columns.increasing (λ x. S (Column x)) c.other (first_lines_contain (length lines.columns) c.other h.1.1.0.0) h.1.1.0.1,
  )
  connector_one false c h = (
    to_inside lines.rows are.rows.increasing (λ r. S (Row r)) c.row (first_lines_contain (length lines.rows) c.row h.0.0) h.0.1,
    to_inside lines.columns are.columns.increasing (λ x. S (Column x)) c.column (first_lines_contain (length lines.columns) c.column h.1.0.0) h.1.0.1,
    to_inside lines.rows are.rows.increasing (λ r. S (Row r)) c.other (first_lines_contain (length lines.rows) c.other h.1.1.0.0) h.1.1.0.1,
  )

  connector_two : (flat : Bool) (c : Connector) → AreOn rows columns S false (connector_lines flat c)
      → HasConnector flat (outside (side m lines are S).rows lines.rows) (outside (side m lines are S).columns lines.columns) (connector_in flat lines c)
  connector_two true c h = (
    to_outside lines.rows are.rows.increasing (λ r. S (Row r)) c.row (first_lines_contain (length lines.rows) c.row h.0.0) h.0.1,
    to_outside lines.columns are.columns.increasing (λ x. S (Column x)) c.column (first_lines_contain (length lines.columns) c.column h.1.0.0) h.1.0.1,
    to_outside lines.columns are.columns.increasing (λ x. S (Column x)) c.other (first_lines_contain (length lines.columns) c.other h.1.1.0.0) h.1.1.0.1,
  )
  connector_two false c h = (
    to_outside lines.rows are.rows.increasing (λ r. S (Row r)) c.row (first_lines_contain (length lines.rows) c.row h.0.0) h.0.1,
    to_outside lines.columns are.columns.increasing (λ x. S (Column x)) c.column (first_lines_contain (length lines.columns) c.column h.1.0.0) h.1.0.1,
    to_outside lines.rows are.rows.increasing (λ r. S (Row r)) c.other (first_lines_contain (length lines.rows) c.other h.1.1.0.0) h.1.1.0.1,
  )

  corner_row : (b flat : Bool) (c : Connector) → AreOn rows columns S b (connector_lines flat c) → c.row < length lines.rows
  corner_row b true c h = first_lines_contain (length lines.rows) c.row h.0.0
  corner_row b false c h = first_lines_contain (length lines.rows) c.row h.0.0

  corner_column : (b flat : Bool) (c : Connector) → AreOn rows columns S b (connector_lines flat c) → c.column < length lines.columns
  corner_column b true c h = first_lines_contain (length lines.columns) c.column h.1.0.0
  corner_column b false c h = first_lines_contain (length lines.columns) c.column h.1.0.0

  nonzero_in : (r c : ℕ) → r < length lines.rows → c < length lines.columns → entry (part m lines) r c ≢ pos 0 → entry m (numbered lines.rows r) (numbered lines.columns c) ≢ pos 0
  nonzero_in r c h k d z = d (entry_in m lines r c h k ∙ z)

  zero_in : (r c : ℕ) → r < length lines.rows → c < length lines.columns → entry (part m lines) r c ≡ pos 0 → entry m (numbered lines.rows r) (numbered lines.columns c) ≡ pos 0
  zero_in r c h k z = sym (entry_in m lines r c h k) ∙ z

  tied_in : (b flat : Bool) (c : Connector) (row column : ℕ) → row < length lines.rows → column < length lines.columns
      → AreOn rows columns S b (connector_lines flat c) → IsTied (entry (part m lines)) flat c row column
      → IsTied (entry m) flat (connector_in flat lines c) (numbered lines.rows row) (numbered lines.columns column)
  tied_in b true c row column l k h tied =
      let other = first_lines_contain (length lines.columns) c.other h.1.1.0.0 in
      (zero_in c.row c.other (corner_row b true c h) other tied.0, nonzero_in row c.other l other tied.1)
  tied_in b false c row column l k h tied =
      let other = first_lines_contain (length lines.rows) c.other h.1.1.0.0 in
      (zero_in c.other c.column other (corner_column b false c h) tied.0, nonzero_in c.other column other k tied.1)

  -- the entries of two connectors in their sides
  module _ (first_flat second_flat : Bool) (first second : Connector) (one : AreOn rows columns S true (connector_lines first_flat first)) (two : AreOn rows columns S false (connector_lines second_flat second)) where
    row_a : first.row < length lines.rows
    row_a = corner_row true first_flat first one

    row_b : second.row < length lines.rows
    row_b = corner_row false second_flat second two

    column_a : first.column < length lines.columns
    column_a = corner_column true first_flat first one

    column_b : second.column < length lines.columns
    column_b = corner_column false second_flat second two

    corner_a : entry (part m lines) first.row first.column ≢ pos 0 → entry m (numbered lines.rows first.row) (numbered lines.columns first.column) ≢ pos 0
    corner_a = nonzero_in first.row first.column row_a column_a

    corner_b : entry (part m lines) second.row second.column ≢ pos 0 → entry m (numbered lines.rows second.row) (numbered lines.columns second.column) ≢ pos 0
    corner_b = nonzero_in second.row second.column row_b column_b

    crossing_in : AreCrossing (entry (part m lines)) first_flat second_flat first second
        → AreCrossing (entry m) first_flat second_flat (connector_in first_flat lines first) (connector_in second_flat lines second)
    crossing_in crossing = record {
      upper = nonzero_in first.row second.column row_a column_b crossing.upper;
      lower = nonzero_in second.row first.column row_b column_a crossing.lower;
      first_tied = tied_in true first_flat first second.row second.column row_b column_b one crossing.first_tied;
      second_tied = tied_in false second_flat second first.row first.column row_a column_a two crossing.second_tied;
    }

    corner_sign : AreCrossing (entry (part m lines)) first_flat second_flat first second → entry (part m lines) first.row first.column ≢ pos 0 → entry (part m lines) second.row second.column ≢ pos 0
        → HasNoCycleFault (entry (part m lines)) → IsMatrix (part m lines) → corner_product (entry m) (connector_in first_flat lines first) (connector_in second_flat lines second) ≡ pos 1
    corner_sign crossing first_corner second_corner no_fault is =
        ap₂ (λ x y. x *ℤ y) (ap₂ (λ x y. x *ℤ y) (sym (entry_in m lines first.row first.column row_a column_a)) (sym (entry_in m lines first.row second.column row_a column_b)))
        (ap₂ (λ x y. x *ℤ y) (sym (entry_in m lines second.row first.column row_b column_a)) (sym (entry_in m lines second.row second.column row_b column_b)))
        ∙ full_squares (part m lines) is.small no_fault first.row second.row first.column second.column (record {
          upper_left = first_corner;
          upper_right = crossing.upper;
          lower_left = crossing.lower;
          lower_right = second_corner;
        })

    upper_made : (r c : ℕ) → r < length lines.rows → c < length lines.columns
        → product_at (entry (part m lines)) first.row second.column r c ≡ product_at (entry m) (numbered lines.rows first.row) (numbered lines.columns second.column) (numbered lines.rows r) (numbered lines.columns c)
    upper_made r c h k = made m lines are S first.row second.column r c row_a column_b h k

    lower_made : (r c : ℕ) → r < length lines.rows → c < length lines.columns
        → product_at (entry (part m lines)) second.row first.column r c ≡ product_at (entry m) (numbered lines.rows second.row) (numbered lines.columns first.column) (numbered lines.rows r) (numbered lines.columns c)
    lower_made r c h k = made m lines are S second.row first.column r c row_b column_a h k

  -- of the concentrated form
  module _ (first second : Connector) (one : AreOn rows columns S true (connector_lines true first)) (two : AreOn rows columns S false (connector_lines false second)) where
    first_other : first.other < length lines.columns
    first_other = first_lines_contain (length lines.columns) first.other one.1.1.0.0

    second_other : second.other < length lines.rows
    second_other = first_lines_contain (length lines.rows) second.other two.1.1.0.0

    first_row : first.row < length lines.rows
    first_row = corner_row true true first one

    first_column : first.column < length lines.columns
    first_column = corner_column true true first one

    second_row : second.row < length lines.rows
    second_row = corner_row false false second two

    second_column : second.column < length lines.columns
    second_column = corner_column false false second two

    core_in : core_determinant (entry (part m lines)) first second ≡ core_determinant (entry m) (connector_in true lines first) (connector_in false lines second)
    core_in = rw (
      entry_in m lines second.row first.column second_row first_column,
      entry_in m lines second.row first.other second_row first_other,
      entry_in m lines second.other first.column second_other first_column,
      entry_in m lines second.other first.other second_other first_other,
    ) refl

    concentrated_in : AreConcentrated (entry (part m lines)) first second → AreConcentrated (entry m) (connector_in true lines first) (connector_in false lines second)
    concentrated_in c = record {
      first_other = nonzero_in first.row first.other first_row first_other c.first_other;
      second_other = nonzero_in second.other second.column second_other second_column c.second_other;
      columns_increase = increasing_places lines.columns first.column first.other are.columns.increasing c.columns_increase first_other;
      rows_increase = increasing_places lines.rows second.row second.other are.rows.increasing c.rows_increase second_other;
      determinant = subst IsSign core_in c.determinant;
    }

    spread_in : (r c : ℕ) → r < length lines.rows → c < length lines.columns
        → spread_at (entry (part m lines)) first second r c ≡ spread_at (entry m) (connector_in true lines first) (connector_in false lines second) (numbered lines.rows r) (numbered lines.columns c)
    spread_in r c h k = rw (
      entry_in m lines second.row first.column second_row first_column,
      entry_in m lines second.row first.other second_row first_other,
      entry_in m lines second.other first.column second_other first_column,
      entry_in m lines second.other first.other second_other first_other,
      entry_in m lines r first.column h first_column,
      entry_in m lines r first.other h first_other,
      entry_in m lines second.row c second_row k,
      entry_in m lines second.other c second_other k,
    ) refl

  -- of each form
  abbrev named_first : Form → Connector → Connector
  named_first form first = connector_in (first_is_flat form) lines first

  abbrev named_second : Form → Connector → Connector
  named_second form second = connector_in (second_is_flat form) lines second

  connectors_in : (form : Form) (first second : Connector) → AreOn rows columns S true (connector_lines (first_is_flat form) first)
      → AreOn rows columns S false (connector_lines (second_is_flat form) second)
      → separations.AreConnectors (entry (part m lines)) form first second → separations.AreConnectors (entry m) form (named_first form first) (named_second form second)
  connectors_in form first second one two c = record {
    first_corner = corner_a (first_is_flat form) (second_is_flat form) first second one two c.first_corner;
    second_corner = corner_b (first_is_flat form) (second_is_flat form) first second one two c.second_corner;
    tied = tied_by form one two c.tied;
  }
    where
      tied_by : (f : Form) → AreOn rows columns S true (connector_lines (first_is_flat f) first) → AreOn rows columns S false (connector_lines (second_is_flat f) second)
          → AreTied (entry (part m lines)) f first second → AreTied (entry m) f (named_first f first) (named_second f second)
      tied_by Delta h k tied = crossing_in true true first second h k tied
      tied_by YForm h k tied = crossing_in false false first second h k tied
      tied_by Mixed h k tied = crossing_in true false first second h k tied
      tied_by Concentrated h k tied = concentrated_in first second h k tied

  corner_in : (form : Form) (first second : Connector) → AreOn rows columns S true (connector_lines (first_is_flat form) first)
      → AreOn rows columns S false (connector_lines (second_is_flat form) second)
      → separations.AreConnectors (entry (part m lines)) form first second → HasNoCycleFault (entry (part m lines)) → IsMatrix (part m lines)
      → HaveCornerSign (entry m) form (named_first form first) (named_second form second)
  corner_in Delta first second one two c no_fault is = corner_sign true true first second one two c.tied c.first_corner c.second_corner no_fault is
  corner_in YForm first second one two c no_fault is = corner_sign false false first second one two c.tied c.first_corner c.second_corner no_fault is
  corner_in Mixed first second one two c no_fault is = corner_sign true false first second one two c.tied c.first_corner c.second_corner no_fault is
  corner_in Concentrated first second one two c no_fault is = tt

  upper_in : (form : Form) (first second : Connector) → AreOn rows columns S true (connector_lines (first_is_flat form) first)
      → AreOn rows columns S false (connector_lines (second_is_flat form) second)
      → (r c : ℕ) → r < length lines.rows → c < length lines.columns
      → upper_block (entry (part m lines)) form first second r c ≡ upper_block (entry m) form (named_first form first) (named_second form second) (numbered lines.rows r) (numbered lines.columns c)
  upper_in Delta first second one two = upper_made true true first second one two
  upper_in YForm first second one two = upper_made false false first second one two
  upper_in Mixed first second one two = upper_made true false first second one two
  upper_in Concentrated first second one two = λ r c h k. refl

  lower_in : (form : Form) (first second : Connector) → AreOn rows columns S true (connector_lines (first_is_flat form) first)
      → AreOn rows columns S false (connector_lines (second_is_flat form) second)
      → (r c : ℕ) → r < length lines.rows → c < length lines.columns
      → lower_block (entry (part m lines)) form first second r c ≡ lower_block (entry m) form (named_first form first) (named_second form second) (numbered lines.rows r) (numbered lines.columns c)
  lower_in Delta first second one two = lower_made true true first second one two
  lower_in YForm first second one two = lower_made false false first second one two
  lower_in Mixed first second one two = lower_made true false first second one two
  lower_in Concentrated first second one two = spread_in first second one two

module _ (m : Matrix) (lines : LineSet) (are : AreLines m lines) (t : Three) (S : Lines) (side_is : set_in lines t.side ≡ side m lines are S)
    (separated : IsThreeSeparation (entry (part m lines)) (first_lines (length lines.rows)) (first_lines (length lines.columns)) S t.form t.first t.second) where
  pub three_short : HaveLines 4 (sides lines (three_in lines t).side)
  three_short = subst (λ s. HaveLines 4 (sides lines s)) (sym side_is) (enough m lines are S 4 separated.enough)

  pub three_corner : HasNoCycleFault (entry (part m lines)) → IsMatrix (part m lines) → HasCornerSign (entry m) (three_in lines t)
  three_corner = corner_in m lines are S t.form t.first t.second separated.one separated.two separated.connectors

  pub three_connectors : AreConnectorsOfSides (entry m) (sides lines (three_in lines t).side) (three_in lines t)
  three_connectors = record {
    first = subst (λ s. HasConnector (first_is_flat t.form) (inside s.rows lines.rows) (inside s.columns lines.columns) (connector_in (first_is_flat t.form) lines t.first)) (sym side_is) (connector_one m lines are S (first_is_flat t.form) t.first separated.one);
    second = subst (λ s. HasConnector (second_is_flat t.form) (outside s.rows lines.rows) (outside s.columns lines.columns) (connector_in (second_is_flat t.form) lines t.second)) (sym side_is) (connector_two m lines are S (second_is_flat t.form) t.second separated.two);
    values = connectors_in m lines are S t.form t.first t.second separated.one separated.two separated.connectors;
  }

  pub three_blocks : AreThreeBlocks (entry m) (sides lines (three_in lines t).side) (three_in lines t)
  three_blocks = subst (λ s. AreThreeBlocks (entry m) (sides lines s) (three_in lines t)) (sym side_is) (record {
    upper = right_entries m lines are S (upper_block (entry m) t.form (three_in lines t).first (three_in lines t).second) (upper_block (entry (part m lines)) t.form t.first t.second)
        (λ r c h k. separated.blocks.upper r c (contains_first_lines (length lines.rows) r h) (contains_first_lines (length lines.columns) c k))
        (upper_in m lines are S t.form t.first t.second separated.one separated.two);
    lower = below_entries m lines are S (lower_block (entry m) t.form (three_in lines t).first (three_in lines t).second) (lower_block (entry (part m lines)) t.form t.first t.second)
        (λ r c h k. separated.blocks.lower r c (contains_first_lines (length lines.rows) r h) (contains_first_lines (length lines.columns) c k))
        (lower_in m lines are S t.form t.first t.second separated.one separated.two);
  })
