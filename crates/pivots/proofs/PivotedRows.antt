-- A matrix whose rows get the entries of a pivot, row by row and column by column.
use Rattle.std.proofs.Common.{◌≡◌, ◌≢◌, ◌<◌, ◌≤◌, ◌+◌, ◌∙◌, ◌⊎◌, inl, inr, ◌&&◌, ℕ, Bool, true, false, cond, ℤ, List, length, get_or, Contains, min, max, refl, sym, subst, arith}
use Rattle.std.specs.List.Sorted.{IsStrictlyIncreasing}
use Rattle.std.specs.List.{AllByRecursion}
use Rattle.std.proofs.lemmas.Bool.{cases_eq, cases_lt}
use Rattle.std.proofs.lemmas.List.{get_or_default}
use Rattle.std.proofs.lemmas.List.Elements.{Contains-get_or}
use Rattle.cmr_base.specs.declared.line.Line.TheVariants.{Row, Column}
use Rattle.cmr_base.specs.declared.line_set.LineSet.{LineSet}
use Rattle.cmr_base.specs.LineSets.{IsRowSet, IsColumnSet}
use Rattle.cmr_base.specs.Matrix.{Matrix, height, entry, with_entry, IsEntry, IsMatrix}
use Rattle.cmr_base.specs.Separations.{listed}
use Rattle.cmr_base.specs.Violator.{IsViolator}
use Rattle.cmr_base.proofs.Booleans.{true_is_false}
use Rattle.cmr_base.proofs.Entries.{height-with_entry, entry-with_entry_same, entry-with_entry_other_column, entry-with_entry_other_row, is_matrix-with_entry}
use Rattle.cmr_base.proofs.ListedLines.{has_line_from_listed, listed_from_has_line}
use Rattle.cmr_base.proofs.ListsWithout.{in_from_contains}
use Rattle.cmr_base.proofs.Places.{contained_below, each_more, placed_before}
use Rattle.cmr_base.proofs.IncreasingLists.{IncreasesIn, increasing_row_set, increasing_column_set}
use Rattle.cmr_base.specs.PlacedPivots.{pivot_entry, replaced_entry, IsPlaceIn}
use Rattle.ghouila.proofs.PivotLaws.{filled_again}
use Rattle.cmr_base.specs.declared.position.Position.{Position}
use Rattle.pivots.specs.ChosenLines.{two_lines}
use Rattle.pivots.specs.PivotedParts.{IsMadePart, ShowsFirstTwoIn}
use Rattle.pivots.specs.PivotedRows.{IsPivotedRow, IsFirstTwoOfRow}
use Rattle.pivots.proofs.LinesBefore.{pivot_place}
use Rattle.pivots.proofs.PivotEntries.{two_is_violator}

-- what holds for each item of a list holds for a number that it contains
each_contained : (P : ℕ → Type 0) (xs : List ℕ) (k : ℕ) → length xs ≤ k → ((p : ℕ) → p < k → P (get_or xs p 0)) → (x : ℕ) → Contains xs x → P x
each_contained P xs k whole each x (p, l, e) = subst P (get_or_default xs p 0 x l ∙ e) (each p (omega arith))

-- ---- one row

-- the row has the entries of the pivot in the first of these columns
pub record IsRowPivotedTo (m before now : Matrix) (columns : List ℕ) (place : Position) (row k : ℕ) : Type 0 where
  pub shape : IsMatrix now
  pub same_height : height now ≡ height before
  pub same_width : now.width ≡ before.width
  pub entries : (p : ℕ) → p < k → entry now row (get_or columns p 0) ≡ pivot_entry (entry m) place.row place.column row (get_or columns p 0)
  pub small : (p : ℕ) → p < k → IsEntry (pivot_entry (entry m) place.row place.column row (get_or columns p 0))
  pub others : (i j : ℕ) → (i ≢ row) ⊎ (¬ (Contains columns j)) → entry now i j ≡ entry before i j

module _ (m before : Matrix) (columns : List ℕ) (place : Position) (row : ℕ) where
  pub row_begun : IsMatrix before → IsRowPivotedTo m before before columns place row 0
  row_begun is = record { shape = is; same_height = refl; same_width = refl; entries = λ p h. absurd (omega arith); small = λ p h. absurd (omega arith); others = λ i j h. refl }

  pub row_goes_on : (now : Matrix) (k : ℕ) (value : ℤ) → k < length columns → row < height now → get_or columns k 0 < now.width
      → value ≡ pivot_entry (entry m) place.row place.column row (get_or columns k 0) → IsEntry value
      → IsRowPivotedTo m before now columns place row k → IsRowPivotedTo m before (with_entry now row (get_or columns k 0) value) columns place row (k + 1)
  row_goes_on now k value inside row_in column_in e small h = record {
    shape = is_matrix-with_entry now row column value row_in small h.shape;
    same_height = height-with_entry now row column value ∙ h.same_height;
    same_width = h.same_width;
    entries = each_more (λ p. entry (with_entry now row column value) row (get_or columns p 0) ≡ after (get_or columns p 0)) k earlier there;
    small = each_more (λ p. IsEntry (after (get_or columns p 0))) k h.small (subst IsEntry e small);
    others = kept;
  }
    where
      column : ℕ
      column = get_or columns k 0

      after : ℕ → ℤ
      after j = pivot_entry (entry m) place.row place.column row j

      there : entry (with_entry now row (get_or columns k 0) value) row (get_or columns k 0) ≡ pivot_entry (entry m) place.row place.column row (get_or columns k 0)
      there = entry-with_entry_same now row (get_or columns k 0) value row_in h.shape column_in ∙ e

      earlier : (p : ℕ) → p < k → entry (with_entry now row (get_or columns k 0) value) row (get_or columns p 0) ≡ pivot_entry (entry m) place.row place.column row (get_or columns p 0)
      earlier p lt = elim (cases_eq (get_or columns p 0) (get_or columns k 0)) [
        | inl same ↦ subst (λ j. entry (with_entry now row (get_or columns k 0) value) row j ≡ pivot_entry (entry m) place.row place.column row j) (sym same) there
        | inr apart ↦ entry-with_entry_other_column now row (get_or columns k 0) value row_in (get_or columns p 0) apart ∙ h.entries p lt
      ]

      in_row : (j : ℕ) → ¬ (Contains columns j) → entry (with_entry now row (get_or columns k 0) value) row j ≡ entry before row j
      in_row j out = entry-with_entry_other_column now row (get_or columns k 0) value row_in j (λ q. out (subst (Contains columns) (sym q) (Contains-get_or columns k 0 inside))) ∙ h.others row j (inr out)

      kept : (i j : ℕ) → (i ≢ row) ⊎ (¬ (Contains columns j)) → entry (with_entry now row (get_or columns k 0) value) i j ≡ entry before i j
      kept i j (inl other) = entry-with_entry_other_row now row (get_or columns k 0) value i j other ∙ h.others i j (inl other)
      kept i j (inr out) = elim (cases_eq i row) [
        | inl same ↦ subst (λ x. entry (with_entry now row (get_or columns k 0) value) x j ≡ entry before x j) (sym same) (in_row j out)
        | inr other ↦ entry-with_entry_other_row now row (get_or columns k 0) value i j other ∙ h.others i j (inl other)
      ]

  pub row_ended : (now : Matrix) (k : ℕ) → length columns ≤ k → IsRowPivotedTo m before now columns place row k → IsPivotedRow m before now columns place row
  row_ended now k whole h = record {
    shape = h.shape;
    same_height = h.same_height;
    same_width = h.same_width;
    entries = each_contained (λ j. entry now row j ≡ pivot_entry (entry m) place.row place.column row j) columns k whole h.entries;
    small = each_contained (λ j. IsEntry (pivot_entry (entry m) place.row place.column row j)) columns k whole h.small;
    others = h.others;
  }

  pub row_stopped : (now : Matrix) (k : ℕ) → k < length columns → IsStrictlyIncreasing columns → ¬ (IsEntry (pivot_entry (entry m) place.row place.column row (get_or columns k 0)))
      → IsRowPivotedTo m before now columns place row k → IsFirstTwoOfRow m columns place row (get_or columns k 0)
  row_stopped now k inside increasing two h = record {
    column_in = Contains-get_or columns k 0 inside;
    two = two;
    columns_before = λ j there lower. placed_before (λ x. IsEntry (pivot_entry (entry m) place.row place.column row x)) columns k increasing h.small j (in_from_contains columns j there) lower;
  }

-- ---- row by row

-- the first rows of the submatrix have the entries of the pivot, and all other entries are unchanged
pub record ArePivotedTo (m now : Matrix) (lines : LineSet) (place : Position) (k : ℕ) : Type 0 where
  pub within : k ≤ length lines.rows
  pub shape : IsMatrix now
  pub same_height : height now ≡ height m
  pub same_width : now.width ≡ m.width
  pub entries : (p : ℕ) → p < k → (j : ℕ) → Contains lines.columns j → entry now (get_or lines.rows p 0) j ≡ pivot_entry (entry m) place.row place.column (get_or lines.rows p 0) j
  pub small : (p : ℕ) → p < k → (j : ℕ) → Contains lines.columns j → IsEntry (pivot_entry (entry m) place.row place.column (get_or lines.rows p 0) j)
  pub others : (i j : ℕ) → ((p : ℕ) → p < k → get_or lines.rows p 0 ≢ i) ⊎ (¬ (Contains lines.columns j)) → entry now i j ≡ entry m i j

module _ (m : Matrix) (lines : LineSet) (place : Position) where
  pub rows_begun : (now : Matrix) → now ≡ m → IsMatrix m → ArePivotedTo m now lines place 0
  rows_begun now e is = subst (λ x. ArePivotedTo m x lines place 0) (sym e) (record {
    within = omega arith;
    shape = is;
    same_height = refl;
    same_width = refl;
    entries = λ p h. absurd (omega arith);
    small = λ p h. absurd (omega arith);
    others = λ i j h. refl;
  })

  pub rows_go_on : (now next : Matrix) (k : ℕ) → k < length lines.rows → IsPivotedRow m now next lines.columns place (get_or lines.rows k 0)
      → ArePivotedTo m now lines place k → ArePivotedTo m next lines place (k + 1)
  rows_go_on now next k inside row h = record {
    within = omega arith;
    shape = row.shape;
    same_height = row.same_height ∙ h.same_height;
    same_width = row.same_width ∙ h.same_width;
    entries = each_more (λ p. (j : ℕ) → Contains lines.columns j → entry next (get_or lines.rows p 0) j ≡ pivot_entry (entry m) place.row place.column (get_or lines.rows p 0) j) k earlier row.entries;
    small = each_more (λ p. (j : ℕ) → Contains lines.columns j → IsEntry (pivot_entry (entry m) place.row place.column (get_or lines.rows p 0) j)) k h.small row.small;
    others = kept;
  }
    where
      earlier : (p : ℕ) → p < k → (j : ℕ) → Contains lines.columns j → entry next (get_or lines.rows p 0) j ≡ pivot_entry (entry m) place.row place.column (get_or lines.rows p 0) j
      earlier p lt j there = elim (cases_eq (get_or lines.rows p 0) (get_or lines.rows k 0)) [
        | inl same ↦ subst (λ i. entry next i j ≡ pivot_entry (entry m) place.row place.column i j) (sym same) (row.entries j there)
        | inr apart ↦ row.others (get_or lines.rows p 0) j (inl apart) ∙ h.entries p lt j there
      ]

      kept : (i j : ℕ) → ((p : ℕ) → p < k + 1 → get_or lines.rows p 0 ≢ i) ⊎ (¬ (Contains lines.columns j)) → entry next i j ≡ entry m i j
      kept i j (inl none) = row.others i j (inl (λ e. none k (omega arith) (sym e))) ∙ h.others i j (inl (λ p lt. none p (omega arith)))
      kept i j (inr out) = row.others i j (inr out) ∙ h.others i j (inr out)

  pub rows_ended : (now : Matrix) (k : ℕ) → length lines.rows ≤ k → ArePivotedTo m now lines place k → IsMadePart m lines place now
  rows_ended now k whole h = record {
    ternary = λ i j there there'. each_contained (λ x. (j : ℕ) → Contains lines.columns j → IsEntry (pivot_entry (entry m) place.row place.column x j)) lines.rows k whole h.small i there j there';
    is = filled_again now (height m) m.width (replaced_entry m lines place) h.shape.rectangular h.same_height h.same_width
        (λ i j hi hj. replaced i j (listed lines.rows lines.columns (Row i)) (listed lines.rows lines.columns (Column j)) refl refl);
    shape = h.shape;
  }
    where
      row_there : (i p : ℕ) → p < length lines.rows → get_or lines.rows p 0 ≡ i → Contains lines.rows i
      row_there i p inside q = subst (Contains lines.rows) q (Contains-get_or lines.rows p 0 inside)

      replaced : (i j : ℕ) (s t : Bool) → listed lines.rows lines.columns (Row i) ≡ s → listed lines.rows lines.columns (Column j) ≡ t
          → entry now i j ≡ cond (s && t) (pivot_entry (entry m) place.row place.column i j) (entry m i j)
      replaced i j true true e f =
          each_contained (λ x. (j : ℕ) → Contains lines.columns j → entry now x j ≡ pivot_entry (entry m) place.row place.column x j) lines.rows k whole h.entries i
          (has_line_from_listed lines.rows lines.columns (Row i) e) j (has_line_from_listed lines.rows lines.columns (Column j) f)
      replaced i j true false e f = h.others i j (inr (λ there. true_is_false (sym (listed_from_has_line lines.rows lines.columns (Column j) there) ∙ f)))
      replaced i j false t e f = h.others i j (inl (λ p lt q. true_is_false (sym (listed_from_has_line lines.rows lines.columns (Row i) (row_there i p (let w = h.within in omega arith) q)) ∙ e)))

-- the same for the lists of the submatrix
pub first_two_of : (m : Matrix) (lines : LineSet) (place : Position) (rows columns : List ℕ) (k column : ℕ) → rows ≡ lines.rows → columns ≡ lines.columns
    → IsFirstTwoOfRow m columns place (get_or rows k 0) column → IsFirstTwoOfRow m lines.columns place (get_or lines.rows k 0) column
first_two_of m lines place rows columns k column e f first =
    subst (λ (xs : List ℕ). IsFirstTwoOfRow m xs place (get_or lines.rows k 0) column) f (subst (λ (xs : List ℕ). IsFirstTwoOfRow m columns place (get_or xs k 0) column) e first)

-- ---- two lines

pub two_among : (lines : List ℕ) (one other : ℕ) → Contains lines one → Contains lines other → AllByRecursion (Contains lines) (two_lines one other)
two_among lines one other there there' = elim (cases_lt one other) [
  | inl lt ↦ ((let e : one ≡ min one other = omega arith in subst (Contains lines) e there), ((let e : other ≡ max one other = omega arith in subst (Contains lines) e there'), tt))
  | inr ge ↦ ((let e : other ≡ min one other = omega arith in subst (Contains lines) e there'), ((let e : one ≡ max one other = omega arith in subst (Contains lines) e there), tt))
]

module _ (m : Matrix) (lines : LineSet) (place : Position) (is : IsMatrix m) (is_rows : IsRowSet m lines.rows) (is_columns : IsColumnSet m lines.columns) (place_in : IsPlaceIn m lines place) where
  below : (x : ℕ) → Contains lines.rows x → x < height m
  below x h = contained_below (height m) lines.rows x is_rows.in_range h

  below' : (x : ℕ) → Contains lines.columns x → x < m.width
  below' x h = contained_below m.width lines.columns x is_columns.in_range h

  pub first_two_apart : (row column : ℕ) → Contains lines.rows row → IsFirstTwoOfRow m lines.columns place row column
      → (place.row ≢ row) × (place.column ≢ column) × IsViolator (entry m) (two_lines place.row row) (two_lines place.column column)
  first_two_apart row column there first = two_is_violator m place.row place.column row column
      (pivot_place m place.row place.column is (below place.row place_in.row) (below' place.column place_in.column) place_in.nonzero) is.small
      (below row there) (below' column first.column_in) first.two

  pub shows_first_two : (now : Matrix) (k column : ℕ) (rows columns : List ℕ) → k < length lines.rows → ArePivotedTo m now lines place k
      → IsFirstTwoOfRow m lines.columns place (get_or lines.rows k 0) column
      → rows ≡ two_lines place.row (get_or lines.rows k 0) → columns ≡ two_lines place.column column → ShowsFirstTwoIn m lines place rows columns
  shows_first_two now k column rows columns inside h first e f = record {
    other_row = row;
    other_column = column;
    row_in = there;
    column_in = first.column_in;
    two = first.two;
    rows_before = λ i j i_there j_there lower.
        placed_before (λ x. (j : ℕ) → Contains lines.columns j → IsEntry (pivot_entry (entry m) place.row place.column x j)) lines.rows k is_rows.increasing h.small i (in_from_contains lines.rows i i_there) lower j j_there;
    columns_before = first.columns_before;
    rows_are = e;
    columns_are = f;
    row_set = subst (IsRowSet m) (sym e) (increasing_row_set m (two_lines place.row row) two_rows);
    column_set = subst (IsColumnSet m) (sym f) (increasing_column_set m (two_lines place.column column) two_columns);
    among = record {
      rows = subst (AllByRecursion (Contains lines.rows)) (sym e) (two_among lines.rows place.row row place_in.row there);
      columns = subst (AllByRecursion (Contains lines.columns)) (sym f) (two_among lines.columns place.column column place_in.column first.column_in);
    };
    violator = subst (λ xs. IsViolator (entry m) xs columns) (sym e) (subst (IsViolator (entry m) (two_lines place.row row)) (sym f) found.2);
  }
    where
      row : ℕ
      row = get_or lines.rows k 0

      there : Contains lines.rows (get_or lines.rows k 0)
      there = Contains-get_or lines.rows k 0 inside

      found : (place.row ≢ get_or lines.rows k 0) × (place.column ≢ column) × IsViolator (entry m) (two_lines place.row (get_or lines.rows k 0)) (two_lines place.column column)
      found = first_two_apart (get_or lines.rows k 0) column there first

      two_increase : (n a b : ℕ) → a ≢ b → a < n → b < n → IncreasesIn 0 n (two_lines a b)
      two_increase n a b apart ha hb = (omega arith, omega arith, (omega arith, omega arith, tt))

      two_rows : IncreasesIn 0 (height m) (two_lines place.row (get_or lines.rows k 0))
      two_rows = two_increase (height m) place.row (get_or lines.rows k 0) found.0 (below place.row place_in.row) (below (get_or lines.rows k 0) there)

      two_columns : IncreasesIn 0 m.width (two_lines place.column column)
      two_columns = two_increase m.width place.column column found.1 (below' place.column place_in.column) (below' column first.column_in)
