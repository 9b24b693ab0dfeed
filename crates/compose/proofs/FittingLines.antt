-- The lines of the two matrices of a separation are lines of the matrix, and not more than the matrix has.
use Rattle.std.proofs.Common.{◌≡◌, ◌≢◌, ◌<◌, ◌≤◌, ◌+◌, ◌∙◌, ◌++◌, ◌*ℤ◌, inl, ℕ, ℤ, pos, Bool, true, false, List, [], ◌∷◌, map, length, ap, refl, arith}
use Rattle.std.specs.List.{AllByRecursion}
use Rattle.std.proofs.lemmas.List.FromFn.{length-range_with_len}
use Rattle.cmr_base.specs.declared.line_set.LineSet.{LineSet}
use Rattle.cmr_base.specs.declared.separation.Connector.{Connector}
use Rattle.cmr_base.specs.Matrix.{Matrix, height, entry}
use Rattle.cmr_base.specs.LineSets.{first_lines}
use Rattle.cmr_base.specs.Members.{IsIn}
use Rattle.cmr_base.specs.Signing.{IsSign}
use Rattle.cmr_base.proofs.Lists.{all-append, all-map}
use Rattle.cmr_base.proofs.Members.{all_of_members}
use Rattle.cmr_base.proofs.ListedLines.{first_lines_contain}
use Rattle.cmr_base.proofs.SignEntries.{sign-mul, sign_nonzero}
use Rattle.compose.specs.declared.sides.Sides.{Sides}
use Rattle.compose.specs.declared.signed_line.SignedLine.{SignedLine}
use Rattle.compose.specs.Arrangements.{signed, plain, framed, AreSignedLines, HasSignedLines, sides_of, others, two_sum_lines, corner_lines, core_lines, last_rows, last_columns, begin_rows, begin_columns}
use Rattle.compose.proofs.SignedPlaces.{length-framed}
use Rattle.compose.proofs.SideLines.{from_one, from_two, in_others, both_sides, one_there, two_there, others_one, others_two}
use Rattle.compose.proofs.CornerRoundTrips.{AreCornered, IsFirstOther, IsSecondOther}
use Rattle.compose.proofs.CoreRoundTrips.{AreCored}

-- a line below the bound, with a sign
abbrev pub IsSigned : ℕ → SignedLine → Type 0
IsSigned bound line = (line.line < bound) × IsSign line.sign

framed_fit : (bound : ℕ) (first : List SignedLine) (lines : List ℕ) (last : List SignedLine) → length first + (length lines + length last) ≤ bound
    → AllByRecursion (IsSigned bound) first → ((x : ℕ) → IsIn x lines → x < bound) → AllByRecursion (IsSigned bound) last → AreSignedLines bound (framed first lines last)
framed_fit bound first lines last few prefix below back = record {
  few = let e = length-framed first lines last in omega arith;
  each = all-append (IsSigned bound) first (map plain lines ++ last) prefix
      (all-append (IsSigned bound) (map plain lines) last (all-map (IsSigned bound) plain lines (all_of_members (λ x. IsSigned bound (plain x)) lines (λ x h. (below x h, inl refl)))) back);
}

-- two lines differ if one has a nonzero entry and the other has the entry 0
apart : (f : ℕ → ℤ) (x y : ℕ) → f y ≡ pos 0 → IsSign (f x) → x ≢ y
apart f x y zero unit e = sign_nonzero (f x) unit (ap f e ∙ zero)

module _ (m : Matrix) (side : LineSet) where
  abbrev s : Sides
  s = sides_of m side

  rows_all : length s.rows_one + length s.rows_two ≡ height m
  rows_all = both_sides side.rows (first_lines (height m)) ∙ length-range_with_len 0 (height m)

  columns_all : length s.columns_one + length s.columns_two ≡ m.width
  columns_all = both_sides side.columns (first_lines m.width) ∙ length-range_with_len 0 m.width

  row_one : (x : ℕ) → IsIn x s.rows_one → x < height m
  row_one x h = first_lines_contain (height m) x (from_one side.rows (first_lines (height m)) x h).0

  row_two : (x : ℕ) → IsIn x s.rows_two → x < height m
  row_two x h = first_lines_contain (height m) x (from_two side.rows (first_lines (height m)) x h).0

  column_one : (x : ℕ) → IsIn x s.columns_one → x < m.width
  column_one x h = first_lines_contain m.width x (from_one side.columns (first_lines m.width) x h).0

  column_two : (x : ℕ) → IsIn x s.columns_two → x < m.width
  column_two x h = first_lines_contain m.width x (from_two side.columns (first_lines m.width) x h).0

  pub two_fits : (i j : ℕ) → IsIn i s.rows_two → IsIn j s.columns_one → IsSign (entry m i j) → HasSignedLines m (two_sum_lines (entry m) s i j)
  two_fits i j hi hj unit =
      let r = rows_all in
      let c = columns_all in
      let a = one_there i s.rows_two hi in
      let b = one_there j s.columns_one hj in
      record {
        first_rows = framed_fit (height m) [] s.rows_two [] (omega arith) tt row_two tt;
        first_columns = framed_fit m.width [] s.columns_two (plain j ∷ []) (omega arith) tt column_two ((column_one j hj, inl refl), tt);
        second_rows = framed_fit (height m) (signed i (entry m i j) ∷ []) s.rows_one [] (omega arith) ((row_two i hi, unit), tt) row_one tt;
        second_columns = framed_fit m.width [] s.columns_one [] (omega arith) tt column_one tt;
      }

  module _ (flat1 flat2 : Bool) (f g : Connector) (t : AreCornered (entry m) flat1 flat2 s f g) where
    abbrev M : ℕ → ℕ → ℤ
    M = entry m

    last_rows_fit : (b : Bool) → IsSecondOther M b s f g → AreSignedLines (height m) (last_rows M b s.rows_one f g)
    last_rows_fit true other =
        let r = rows_all in
        let a = one_there g.row s.rows_two t.row_k in
        framed_fit (height m) [] s.rows_one (plain g.row ∷ []) (omega arith) tt row_one ((row_two g.row t.row_k, inl refl), tt)
    last_rows_fit false other =
        let r = rows_all in
        let a = two_there g.row g.other s.rows_two t.row_k other.0 (apart (λ x. M x g.column) g.row g.other other.1 t.unit_kj) in
        framed_fit (height m) [] s.rows_one (signed g.other (M g.other f.column *ℤ M g.row f.column) ∷ plain g.row ∷ []) (omega arith) tt row_one
        ((row_two g.other other.0, sign-mul (M g.other f.column) (M g.row f.column) other.2 t.unit_kp), ((row_two g.row t.row_k, inl refl), tt))

    last_columns_fit : (b : Bool) → IsSecondOther M b s f g → AreSignedLines m.width (last_columns M b s.columns_one f g)
    last_columns_fit true other =
        let c = columns_all in
        let a = two_there g.column g.other s.columns_two t.column_j other.0 (apart (M g.row) g.column g.other other.1 t.unit_kj) in
        framed_fit m.width [] s.columns_one (signed g.other (M f.row g.other *ℤ M f.row g.column) ∷ plain g.column ∷ []) (omega arith) tt column_one
        ((column_two g.other other.0, sign-mul (M f.row g.other) (M f.row g.column) other.2 t.unit_ij), ((column_two g.column t.column_j, inl refl), tt))
    last_columns_fit false other =
        let c = columns_all in
        let a = one_there g.column s.columns_two t.column_j in
        framed_fit m.width [] s.columns_one (plain g.column ∷ []) (omega arith) tt column_one ((column_two g.column t.column_j, inl refl), tt)

    begin_rows_fit : (b : Bool) → IsFirstOther M b s f g → AreSignedLines (height m) (begin_rows M b s.rows_two f g)
    begin_rows_fit true other =
        let r = rows_all in
        let a = one_there f.row s.rows_one t.row_i in
        framed_fit (height m) (signed f.row (M f.row g.column) ∷ []) s.rows_two [] (omega arith) ((row_one f.row t.row_i, t.unit_ij), tt) row_two tt
    begin_rows_fit false other =
        let r = rows_all in
        let a = two_there f.row f.other s.rows_one t.row_i other.0 (apart (λ x. M x f.column) f.row f.other other.1 t.unit_ip) in
        framed_fit (height m) (signed f.row (M f.row g.column) ∷ signed f.other (M f.other g.column) ∷ []) s.rows_two [] (omega arith)
        ((row_one f.row t.row_i, t.unit_ij), ((row_one f.other other.0, other.2), tt)) row_two tt

    begin_columns_fit : (b : Bool) → IsFirstOther M b s f g → AreSignedLines m.width (begin_columns M b s.columns_two f g)
    begin_columns_fit true other =
        let c = columns_all in
        let a = two_there f.column f.other s.columns_one t.column_p other.0 (apart (M f.row) f.column f.other other.1 t.unit_ip) in
        framed_fit m.width (signed f.column (M g.row f.column) ∷ signed f.other (M g.row f.other) ∷ []) s.columns_two [] (omega arith)
        ((column_one f.column t.column_p, t.unit_kp), ((column_one f.other other.0, other.2), tt)) column_two tt
    begin_columns_fit false other =
        let c = columns_all in
        let a = one_there f.column s.columns_one t.column_p in
        framed_fit m.width (signed f.column (M g.row f.column) ∷ []) s.columns_two [] (omega arith) ((column_one f.column t.column_p, t.unit_kp), tt) column_two tt

    pub corner_fits : HasSignedLines m (corner_lines M flat1 flat2 s f g)
    corner_fits = record {
      first_rows = last_rows_fit flat2 t.other2;
      first_columns = last_columns_fit flat2 t.other2;
      second_rows = begin_rows_fit flat1 t.other1;
      second_columns = begin_columns_fit flat1 t.other1;
    }

  pub core_fits : (f g : Connector) → AreCored (entry m) s f g → HasSignedLines m (core_lines s f g)
  core_fits f g t =
      let r = rows_all in
      let c = columns_all in
      let increases = t.rows_increase in
      let up = t.columns_increase in
      let a1 = one_there f.row s.rows_one t.row_i in
      let a2 = two_there g.row g.other s.rows_two t.row_k t.row_o (λ e. omega arith) in
      let b1 = two_there f.column f.other s.columns_one t.column_p t.column_q (λ e. omega arith) in
      let b2 = one_there g.column s.columns_two t.column_j in
      let a = others_one f.row s.rows_one t.row_i in
      let b = others_two f.column f.other s.columns_one t.column_p t.column_q (λ e. omega arith) in
      let d = others_two g.row g.other s.rows_two t.row_k t.row_o (λ e. omega arith) in
      let e = others_one g.column s.columns_two t.column_j in
      let core_rows : AllByRecursion (IsSigned (height m)) (plain f.row ∷ plain g.row ∷ plain g.other ∷ []) = ((row_one f.row t.row_i, inl refl), ((row_two g.row t.row_k, inl refl), ((row_two g.other t.row_o, inl refl), tt))) in
      let core_columns : AllByRecursion (IsSigned m.width) (plain f.column ∷ plain f.other ∷ plain g.column ∷ []) = ((column_one f.column t.column_p, inl refl), ((column_one f.other t.column_q, inl refl), ((column_two g.column t.column_j, inl refl), tt))) in
      record {
        first_rows = framed_fit (height m) [] (others (f.row ∷ []) s.rows_one) (plain f.row ∷ plain g.row ∷ plain g.other ∷ []) (omega arith) tt (λ x h. row_one x (in_others (f.row ∷ []) s.rows_one x h)) core_rows;
        first_columns = framed_fit m.width [] (others (f.column ∷ f.other ∷ []) s.columns_one) (plain f.column ∷ plain f.other ∷ plain g.column ∷ []) (omega arith) tt (λ x h. column_one x (in_others (f.column ∷ f.other ∷ []) s.columns_one x h)) core_columns;
        second_rows = framed_fit (height m) (plain f.row ∷ plain g.row ∷ plain g.other ∷ []) (others (g.row ∷ g.other ∷ []) s.rows_two) [] (omega arith) core_rows (λ x h. row_two x (in_others (g.row ∷ g.other ∷ []) s.rows_two x h)) tt;
        second_columns = framed_fit m.width (plain f.column ∷ plain f.other ∷ plain g.column ∷ []) (others (g.column ∷ []) s.columns_two) [] (omega arith) core_columns (λ x h. column_two x (in_others (g.column ∷ []) s.columns_two x h)) tt;
      }
