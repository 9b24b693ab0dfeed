-- Sides of cuts as sets of lines.
use Rattle.std.proofs.Common.{◌≡◌, ◌<◌, ◌&&◌, ◌∙◌, not, ℕ, true, false, sym, arith}
use Rattle.cmr_base.specs.BitSets.{Bits}
use Rattle.cmr_base.specs.declared.line.Line.{Line}
use Rattle.cmr_base.specs.declared.line.Line.TheVariants.{Row, Column}
use Rattle.cmr_base.specs.declared.line_mask.LineMask.{LineMask}
use Rattle.cmr_base.specs.declared.line_set.LineSet.{LineSet}
use Rattle.cmr_base.specs.ColumnSets.{has_column}
use Rattle.cmr_base.specs.LineMasks.{AreAlike, IsMaskOf, as_set}
use Rattle.cmr_base.specs.LineSets.{AllBelow}
use Rattle.cmr_base.specs.Matrix.{Matrix, height, entry}
use Rattle.cmr_base.specs.Seeds.{IsLine}
use Rattle.cmr_base.specs.Separations.{Lines, opposite}
use Rattle.cmr_base.proofs.Booleans.{and_is, false_is, is_and, is_not, is_nonzero_is, nonzero_is, not_both, not_is, not_not}
use Rattle.cmr_base.proofs.ListedLines.{in_from_listed}
use Rattle.cmr_base.proofs.Places.{members_below}
use Rattle.path_places.specs.declared.side.Side.{Side}
use Rattle.path_places.specs.PathPlaces.{HasNonzero, HasZero, IsEndColumn, IsEndRow}
use Rattle.path_places.specs.SideMasks.{AreSideLines, IsSideOf, side_of}
use Rattle.path_places.specs.Submatrices.{IsNonzeroAmong, IsMeetingColumn, IsMeetingRow, IsZeroAmong, SubmatrixView}

-- the set of listed lines
pub listed_lines : (m : Matrix) (lines : LineSet) (mask : LineMask) → AllBelow (height m) lines.rows → AllBelow m.width lines.columns
    → ((x : Line) → as_set mask x ≡ side_of lines x) → AreSideLines m (side_of lines) mask
listed_lines m lines mask rows_in columns_in is = record {
  rows = λ r. (λ e. let h = sym (is (Row r)) ∙ e in (members_below (height m) lines.rows rows_in r (in_from_listed r lines.rows h), h), λ h. is (Row r) ∙ h.1);
  columns = λ c. (λ e. let h = sym (is (Column c)) ∙ e in (members_below m.width lines.columns columns_in c (in_from_listed c lines.columns h), h), λ h. is (Column c) ∙ h.1);
}

-- the set of the other lines
module _ (m : Matrix) (side : Lines) (mask rest : LineMask) (are : AreSideLines m side mask) (size : IsMaskOf m mask)
    (inside_rows : (r : ℕ) → has_column rest.rows.words r ≡ true → r < rest.rows.size) (inside_columns : (c : ℕ) → has_column rest.columns.words c ≡ true → c < rest.columns.size) (same : AreAlike mask rest) (is : (x : Line) → IsLine mask.rows.size mask.columns.size x → as_set rest x ≡ not (as_set mask x)) where
  pub other_lines : AreSideLines m (opposite side) rest
  other_lines = record {
    rows = λ r. (
      (λ e. let l : r < mask.rows.size = omega (arith, inside_rows r e, same.rows) in let low : r < height m = omega (arith, l, size.rows) in (low, is_not (side (Row r)) (false_is (side (Row r)) (λ h. not_both (as_set mask (Row r)) ((are.rows r).1 (low, h)) (not_is (as_set mask (Row r)) (sym (is (Row r) l) ∙ e)))))),
      (λ h. is (Row r) (omega (arith, h.0, size.rows)) ∙ is_not (as_set mask (Row r)) (false_is (as_set mask (Row r)) (λ e. not_both (side (Row r)) ((are.rows r).0 e).1 (not_is (side (Row r)) h.1)))),
    );
    columns = λ c. (
      (λ e. let l : c < mask.columns.size = omega (arith, inside_columns c e, same.columns) in let low : c < m.width = omega (arith, l, size.columns) in (low, is_not (side (Column c)) (false_is (side (Column c)) (λ h. not_both (as_set mask (Column c)) ((are.columns c).1 (low, h)) (not_is (as_set mask (Column c)) (sym (is (Column c) l) ∙ e)))))),
      (λ h. is (Column c) (omega (arith, h.0, size.columns)) ∙ is_not (as_set mask (Column c)) (false_is (as_set mask (Column c)) (λ e. not_both (side (Column c)) ((are.columns c).0 e).1 (not_is (side (Column c)) h.1)))),
    );
  }

-- the other lines of the other lines
pub lines_twice : (m : Matrix) (side : Lines) (mask : LineMask) → AreSideLines m side mask → AreSideLines m (opposite (opposite side)) mask
lines_twice m side mask are = record {
  rows = λ r. (λ e. let h = (are.rows r).0 e in (h.0, not_not (side (Row r)) ∙ h.1), λ h. (are.rows r).1 (h.0, sym (not_not (side (Row r))) ∙ h.1));
  columns = λ c. (λ e. let h = (are.columns c).0 e in (h.0, not_not (side (Column c)) ∙ h.1), λ h. (are.columns c).1 (h.0, sym (not_not (side (Column c))) ∙ h.1));
}

-- what is in one set and not in another
module _ (one other set : Bits) (is : (x : ℕ) → has_column set.words x ≡ (has_column one.words x && not (has_column other.words x))) (x : ℕ) where
  inside_is : has_column set.words x ≡ true → (has_column one.words x ≡ true) × (has_column other.words x ≡ false)
  inside_is e = let h = and_is (has_column one.words x) (not (has_column other.words x)) (sym (is x) ∙ e) in (h.0, not_is (has_column other.words x) h.1)

  is_inside : has_column one.words x ≡ true → (has_column other.words x ≡ true → ⊥) → has_column set.words x ≡ true
  is_inside e n = is x ∙ is_and (has_column one.words x) (not (has_column other.words x)) e (is_not (has_column other.words x) (false_is (has_column other.words x) n))

-- the rows of one side and the columns of the other, and the columns of the side and the rows of the other
abbrev pub rows_across : Matrix → LineMask → LineMask → SubmatrixView
rows_across m own other = record { matrix = m; rows = own.rows; columns = other.columns }

abbrev pub columns_across : Matrix → LineMask → LineMask → SubmatrixView
columns_across m own other = record { matrix = m; rows = other.rows; columns = own.columns }

-- the ends of a side are its lines that meet the other lines
pub side_between : (lines : Lines) (own other : LineMask) (side : Side) → AreSideLines side.matrix.now lines own → AreSideLines side.matrix.now (opposite lines) other
    → ((r : ℕ) → has_column side.ends.rows.words r ≡ true → IsMeetingRow (rows_across side.matrix.now own other) r)
    → ((r : ℕ) → IsMeetingRow (rows_across side.matrix.now own other) r → has_column side.ends.rows.words r ≡ true)
    → ((c : ℕ) → has_column side.ends.columns.words c ≡ true → IsMeetingColumn (columns_across side.matrix.now own other) c)
    → ((c : ℕ) → IsMeetingColumn (columns_across side.matrix.now own other) c → has_column side.ends.columns.words c ≡ true)
    → ((x : ℕ) → has_column side.inner.rows.words x ≡ (has_column own.rows.words x && not (has_column side.ends.rows.words x)))
    → ((x : ℕ) → has_column side.inner.columns.words x ≡ (has_column own.columns.words x && not (has_column side.ends.columns.words x)))
    → IsSideOf lines side
side_between lines own other side are others rows rows_all columns columns_all inner_rows inner_columns = record {
  end_rows = λ r. (row_end r, end_row r);
  end_columns = λ c. (column_end c, end_column c);
  inner_rows = λ r. (
    (λ e. let h = inside_is own.rows side.ends.rows side.inner.rows inner_rows r e in ((are.rows r).0 h.0, λ end. not_both (has_column side.ends.rows.words r) (end_row r end) h.1)),
    (λ h. is_inside own.rows side.ends.rows side.inner.rows inner_rows r ((are.rows r).1 h.0) (λ e. h.1 (row_end r e))),
  );
  inner_columns = λ c. (
    (λ e. let h = inside_is own.columns side.ends.columns side.inner.columns inner_columns c e in ((are.columns c).0 h.0, λ end. not_both (has_column side.ends.columns.words c) (end_column c end) h.1)),
    (λ h. is_inside own.columns side.ends.columns side.inner.columns inner_columns c ((are.columns c).1 h.0) (λ e. h.1 (column_end c e))),
  );
}
  where
    row_end : (r : ℕ) → has_column side.ends.rows.words r ≡ true → IsEndRow side.matrix.now lines r
    row_end r e =
        let (c, here) = rows r e in
        record { on = (are.rows r).0 here.row; across = c; far = (others.columns c).0 here.column; nonzero = nonzero_is (entry side.matrix.now r c) here.nonzero }

    end_row : (r : ℕ) → IsEndRow side.matrix.now lines r → has_column side.ends.rows.words r ≡ true
    end_row r end = rows_all r (end.across, record { inside = end.on.0; row = (are.rows r).1 end.on; column = (others.columns end.across).1 end.far; nonzero = is_nonzero_is (entry side.matrix.now r end.across) end.nonzero })

    column_end : (c : ℕ) → has_column side.ends.columns.words c ≡ true → IsEndColumn side.matrix.now lines c
    column_end c e =
        let (r, here) = columns c e in
        record { on = (are.columns c).0 here.column; across = r; far = (others.rows r).0 here.row; nonzero = nonzero_is (entry side.matrix.now r c) here.nonzero }

    end_column : (c : ℕ) → IsEndColumn side.matrix.now lines c → has_column side.ends.columns.words c ≡ true
    end_column c end = columns_all c (end.across, record { inside = end.far.0; row = (others.rows end.across).1 end.far; column = (are.columns c).1 end.on; nonzero = is_nonzero_is (entry side.matrix.now end.across c) end.nonzero })

-- ---- fit sides

-- the rows and the columns of the ends
abbrev pub ends_of : Side → SubmatrixView
ends_of side = record { matrix = side.matrix.now; rows = side.ends.rows; columns = side.ends.columns }

module _ (lines : Lines) (side : Side) (is : IsSideOf lines side) where
  pub zero_in : (r c : ℕ) → IsZeroAmong (ends_of side) r c → HasZero side.matrix.now lines
  zero_in r c here = (r, c, (is.end_rows r).0 here.row, (is.end_columns c).0 here.column, here.zero)

  pub in_zero : HasZero side.matrix.now lines → (r c : ℕ) × IsZeroAmong (ends_of side) r c
  in_zero (r, c, e, f, zero) = (r, c, record { row_in = e.on.0; column_in = f.on.0; row = (is.end_rows r).1 e; column = (is.end_columns c).1 f; zero = zero })

  pub nonzero_in : (r c : ℕ) → IsNonzeroAmong (ends_of side) r c → HasNonzero side.matrix.now lines
  nonzero_in r c here = (r, c, (is.end_rows r).0 here.row, (is.end_columns c).0 here.column, nonzero_is (entry side.matrix.now r c) here.nonzero)

  pub in_nonzero : HasNonzero side.matrix.now lines → (r c : ℕ) × IsNonzeroAmong (ends_of side) r c
  in_nonzero (r, c, e, f, nonzero) = (r, c, record { inside = e.on.0; row = (is.end_rows r).1 e; column = (is.end_columns c).1 f; nonzero = is_nonzero_is (entry side.matrix.now r c) nonzero })
