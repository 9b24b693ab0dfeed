-- A matrix with a separation is the sum of its two matrices.
use Rattle.std.proofs.Common.{◌≡◌, ◌≢◌, ℕ, ℤ, pos, Bool, true, false, List, arith}
use Rattle.cmr_base.specs.declared.line_set.LineSet.{LineSet}
use Rattle.cmr_base.specs.declared.separation.Connector.{Connector}
use Rattle.cmr_base.specs.declared.separation.Form.{Form}
use Rattle.cmr_base.specs.declared.separation.Form.TheVariants.{Delta, YForm, Mixed, Concentrated}
use Rattle.cmr_base.specs.Matrix.{Matrix, height, entry, HasTernaryEntries}
use Rattle.cmr_base.specs.LineSets.{first_lines}
use Rattle.cmr_base.specs.Members.{IsIn}
use Rattle.cmr_base.specs.Signing.{IsSign}
use Rattle.cmr_base.specs.Separations.{listed, product_at, spread_at, zeros, connector_lines, AreOn, AreCrossing, HasBlocks, IsThreeSeparation, HaveCornerSign}
use Rattle.cmr_base.proofs.SignEntries.{sign_of_entry}
use Rattle.compose.specs.declared.sides.Sides.{Sides}
use Rattle.compose.specs.Arrangements.{sides_of, three_lines, arranged}
use Rattle.compose.specs.SumKinds.{kind_of_form}
use Rattle.compose.specs.RoundTrips.{IsRoundTrip, TwoRoundTrip, ThreeRoundTrip}
use Rattle.compose.proofs.SideLines.{to_one, to_two, from_one, from_two}
use Rattle.compose.proofs.Orders.{one_first, two_first, core_rows, core_columns}
use Rattle.compose.proofs.TwoRoundTrips.{two_round_trip}
use Rattle.compose.proofs.CornerRoundTrips.{AreCornered, IsFirstOther, IsSecondOther, corner_connected, corner_whole}
use Rattle.compose.proofs.CoreRoundTrips.{AreCored, core_round_trip, first_is, second_is}

pub two_round_trips : TwoRoundTrip
two_round_trips m two sep =
    let trip = two_round_trip m (sides_of m two.side) two.row two.column
    (λ r c h k. let a = from_one two.side.rows (first_lines (height m)) r h in let b = from_two two.side.columns (first_lines m.width) c k in sep.blocks.upper r c a.0 b.0 a.1 b.1)
    (λ r c h k. let a = from_two two.side.rows (first_lines (height m)) r h in let b = from_one two.side.columns (first_lines m.width) c k in sep.blocks.lower r c a.0 b.0 a.1 b.1) in
    record { rows = two_first two.side.rows (height m); columns = two_first two.side.columns m.width; connected = trip.0; sum = trip.1 }

module _ (m : Matrix) (side : LineSet) (ternary : HasTernaryEntries m) (f g : Connector) where
  abbrev rows : List ℕ
  rows = first_lines (height m)

  abbrev columns : List ℕ
  columns = first_lines m.width

  abbrev s : Sides
  s = sides_of m side

  sign : (r c : ℕ) → entry m r c ≢ pos 0 → IsSign (entry m r c)
  sign r c h = sign_of_entry (entry m r c) (ternary r c) h

  blocks_right : (upper lower : ℕ → ℕ → ℤ) → HasBlocks (entry m) rows columns (listed side.rows side.columns) upper lower → (r c : ℕ) → IsIn r s.rows_one
      → IsIn c s.columns_two → entry m r c ≡ upper r c
  blocks_right upper lower blocks r c h k = let a = from_one side.rows rows r h in let b = from_two side.columns columns c k in blocks.upper r c a.0 b.0 a.1 b.1

  blocks_below : (upper lower : ℕ → ℕ → ℤ) → HasBlocks (entry m) rows columns (listed side.rows side.columns) upper lower → (r c : ℕ) → IsIn r s.rows_two
      → IsIn c s.columns_one → entry m r c ≡ lower r c
  blocks_below upper lower blocks r c h k = let a = from_two side.rows rows r h in let b = from_one side.columns columns c k in blocks.lower r c a.0 b.0 a.1 b.1

  other_one : (flat1 flat2 : Bool) → AreOn rows columns (listed side.rows side.columns) true (connector_lines flat1 f) → AreCrossing (entry m) flat1 flat2 f g → IsFirstOther (entry m) flat1 s f g
  other_one true flat2 on x = (to_one side.columns columns f.other on.1.1.0.0 on.1.1.0.1, x.first_tied.0, sign g.row f.other x.first_tied.1)
  other_one false flat2 on x = (to_one side.rows rows f.other on.1.1.0.0 on.1.1.0.1, x.first_tied.0, sign f.other g.column x.first_tied.1)

  other_two : (flat1 flat2 : Bool) → AreOn rows columns (listed side.rows side.columns) false (connector_lines flat2 g) → AreCrossing (entry m) flat1 flat2 f g → IsSecondOther (entry m) flat2 s f g
  other_two flat1 true on x = (to_two side.columns columns g.other on.1.1.0.0 on.1.1.0.1, x.second_tied.0, sign f.row g.other x.second_tied.1)
  other_two flat1 false on x = (to_two side.rows rows g.other on.1.1.0.0 on.1.1.0.1, x.second_tied.0, sign g.other f.column x.second_tied.1)

  row_one : (flat : Bool) → AreOn rows columns (listed side.rows side.columns) true (connector_lines flat f) → IsIn f.row s.rows_one
  row_one true on = to_one side.rows rows f.row on.0.0 on.0.1
  row_one false on = to_one side.rows rows f.row on.0.0 on.0.1

  column_one : (flat : Bool) → AreOn rows columns (listed side.rows side.columns) true (connector_lines flat f) → IsIn f.column s.columns_one
  column_one true on = to_one side.columns columns f.column on.1.0.0 on.1.0.1
  column_one false on = to_one side.columns columns f.column on.1.0.0 on.1.0.1

  row_two : (flat : Bool) → AreOn rows columns (listed side.rows side.columns) false (connector_lines flat g) → IsIn g.row s.rows_two
  row_two true on = to_two side.rows rows g.row on.0.0 on.0.1
  row_two false on = to_two side.rows rows g.row on.0.0 on.0.1

  column_two : (flat : Bool) → AreOn rows columns (listed side.rows side.columns) false (connector_lines flat g) → IsIn g.column s.columns_two
  column_two true on = to_two side.columns columns g.column on.1.0.0 on.1.0.1
  column_two false on = to_two side.columns columns g.column on.1.0.0 on.1.0.1

  pub cornered : (flat1 flat2 : Bool) → AreOn rows columns (listed side.rows side.columns) true (connector_lines flat1 f)
      → AreOn rows columns (listed side.rows side.columns) false (connector_lines flat2 g)
      → entry m f.row f.column ≢ pos 0 → entry m g.row g.column ≢ pos 0 → AreCrossing (entry m) flat1 flat2 f g
      → HasBlocks (entry m) rows columns (listed side.rows side.columns) (product_at (entry m) f.row g.column) (product_at (entry m) g.row f.column)
      → AreCornered (entry m) flat1 flat2 s f g
  cornered flat1 flat2 on1 on2 corner1 corner2 x blocks = record {
    row_i = row_one flat1 on1;
    column_p = column_one flat1 on1;
    row_k = row_two flat2 on2;
    column_j = column_two flat2 on2;
    unit_ip = sign f.row f.column corner1;
    unit_kj = sign g.row g.column corner2;
    unit_ij = sign f.row g.column x.upper;
    unit_kp = sign g.row f.column x.lower;
    other1 = other_one flat1 flat2 on1 x;
    other2 = other_two flat1 flat2 on2 x;
    upper = blocks_right (product_at (entry m) f.row g.column) (product_at (entry m) g.row f.column) blocks;
    lower = blocks_below (product_at (entry m) f.row g.column) (product_at (entry m) g.row f.column) blocks;
  }

  pub cored : IsThreeSeparation (entry m) rows columns (listed side.rows side.columns) Concentrated f g → AreCored (entry m) s f g
  cored sep = record {
    row_i = to_one side.rows rows f.row sep.one.0.0 sep.one.0.1;
    column_p = to_one side.columns columns f.column sep.one.1.0.0 sep.one.1.0.1;
    column_q = to_one side.columns columns f.other sep.one.1.1.0.0 sep.one.1.1.0.1;
    row_k = to_two side.rows rows g.row sep.two.0.0 sep.two.0.1;
    row_o = to_two side.rows rows g.other sep.two.1.1.0.0 sep.two.1.1.0.1;
    column_j = to_two side.columns columns g.column sep.two.1.0.0 sep.two.1.0.1;
    unit_ip = sign f.row f.column sep.connectors.first_corner;
    unit_iq = sign f.row f.other sep.connectors.tied.first_other;
    unit_kj = sign g.row g.column sep.connectors.second_corner;
    unit_oj = sign g.other g.column sep.connectors.tied.second_other;
    columns_increase = sep.connectors.tied.columns_increase;
    rows_increase = sep.connectors.tied.rows_increase;
    determinant = sep.connectors.tied.determinant;
    upper = blocks_right zeros (spread_at (entry m) f g) sep.blocks;
    lower = blocks_below zeros (spread_at (entry m) f g) sep.blocks;
  }

  pub by_form : (form : Form) → IsThreeSeparation (entry m) rows columns (listed side.rows side.columns) form f g → HaveCornerSign (entry m) form f g
      → IsRoundTrip (kind_of_form form) m (arranged m (three_lines (entry m) form s f g))
  by_form Delta sep plus =
      let t = cornered true true sep.one sep.two sep.connectors.first_corner sep.connectors.second_corner sep.connectors.tied sep.blocks in
      record { rows = one_first side.rows (height m); columns = one_first side.columns m.width; connected = corner_connected m true true s f g t plus; sum = corner_whole m true true s f g t plus }
  by_form YForm sep plus =
      let t = cornered false false sep.one sep.two sep.connectors.first_corner sep.connectors.second_corner sep.connectors.tied sep.blocks in
      record { rows = one_first side.rows (height m); columns = one_first side.columns m.width; connected = corner_connected m false false s f g t plus; sum = corner_whole m false false s f g t plus }
  by_form Mixed sep plus =
      let t = cornered true false sep.one sep.two sep.connectors.first_corner sep.connectors.second_corner sep.connectors.tied sep.blocks in
      record { rows = one_first side.rows (height m); columns = one_first side.columns m.width; connected = corner_connected m true false s f g t plus; sum = corner_whole m true false s f g t plus }
  by_form Concentrated sep plus =
      let t = cored sep in
      let trip = core_round_trip m s f g t _ _ (first_is m s f g t) (second_is m s f g t) in
      record {
        rows = core_rows side.rows (height m) f.row g.row g.other t.row_i t.row_k t.row_o (λ e. let l = t.rows_increase in omega arith);
        columns = core_columns side.columns m.width f.column f.other g.column t.column_p t.column_q (λ e. let l = t.columns_increase in omega arith) t.column_j;
        connected = trip.0;
        sum = trip.1;
      }

pub three_round_trips : ThreeRoundTrip
three_round_trips m three ternary is = by_form m three.side ternary three.first three.second three.form is.separation is.corners
