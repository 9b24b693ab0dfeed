-- What the pivot of a submatrix in its place keeps.
use Rattle.std.proofs.Common.{◌≡◌, ◌≢◌, ◌<◌, ◌↔◌, inl, inr, ◌∙◌, ◌&&◌, ℕ, Bool, true, false, cond, ℤ, List, [], ◌∷◌, ◌≤◌, map, length, get_or, Contains, refl, ap, sym, subst, arith}
use mathlib.Core.Path.{ap₂}
use Rattle.std.specs.List.{AllByRecursion}
use Rattle.std.proofs.lemmas.Bool.{cases_eq}
use Rattle.std.proofs.lemmas.List.{get_or-map, length-map}
use Rattle.std.proofs.lemmas.List.FromFn.{length-range_with_len}
use Rattle.cmr_base.specs.declared.limits.TheConstants.{MAX_ROWS}
use Rattle.cmr_base.specs.declared.line.Line.TheVariants.{Row, Column}
use Rattle.cmr_base.specs.declared.line_set.LineSet.{LineSet}
use Rattle.cmr_base.specs.LineSets.{AllBelow, IsRowSet, IsColumnSet, first_lines}
use Rattle.cmr_base.specs.Matrix.{Matrix, height, entry, IsEntry, HasTernaryEntries, IsRectangular}
use Rattle.cmr_base.specs.MatrixSums.{filled}
use Rattle.cmr_base.specs.Members.{IsIn}
use Rattle.cmr_base.specs.Separations.{listed}
use Rattle.cmr_base.specs.Signing.{IsSign}
use Rattle.cmr_base.specs.Sums.{sum_over}
use Rattle.cmr_base.specs.Violator.{IsViolator}
use Rattle.cmr_base.proofs.FilledCells.{filled_small}
use Rattle.cmr_base.proofs.FilledMatrices.{height-filled, entry-filled}
use Rattle.cmr_base.proofs.ListedLines.{has_line_from_listed, listed_from_has_line}
use Rattle.cmr_base.proofs.Lists.{IsJoined, one_more_first, all_weaker}
use Rattle.cmr_base.proofs.Members.{all_in, all_of_members}
use Rattle.cmr_base.proofs.Parity.{even_or_odd}
use Rattle.cmr_base.proofs.Places.{contained_below}
use Rattle.cmr_base.proofs.IncreasingLists.{odd_times, all-odd_times, increases-odd_times, increasing_row_set, increasing_column_set, IsSplitAt, split_at}
use Rattle.cmr_base.proofs.SignEntries.{sign_of_entry}
use Rattle.cmr_base.proofs.ViolatorLemmas.{violator_same, violator-odd_times}
use Rattle.ghouila.specs.Found.{HasParity}
use Rattle.cmr_base.specs.PlacedPivots.{pivot_entry, replaced_entry, pivoted_part, IsPlaceIn, IsTernaryPivot}
use Rattle.ghouila.specs.PivotLaws.{pivot_at, IsPivotPlace, AreLinesBefore}
use Rattle.ghouila.proofs.PivotLaws.{twice, pivot_entry_same, pivots_take_violators_back}
use Rattle.ghouila.proofs.ViolatedLines.{ViolatedIn, FreeIn}
use Rattle.ghouila.proofs.WholePivots.{all_fewer, entry_there, whole_before}
use Rattle.cmr_base.specs.declared.position.Position.{Position}
use Rattle.pivots.specs.PartLaws.{HasNoViolatorAmong, PartPivotsTakeViolatorsBack, PartPivotsKeepViolators, PartPivotsStayMatrices}
use Rattle.pivots.specs.PivotedParts.{AreAmong}

-- ---- a violator of a pivot, whose lines may occur more than once

-- the item with the others, or only the others
chosen : (P : ℕ → Type 0) (x : ℕ) (b there : Bool) (xs fewer : List ℕ) → P x → IsJoined there x fewer xs → AllByRecursion P xs → (more : List ℕ) × IsJoined b x fewer more × AllByRecursion P more
chosen P x true there xs fewer p join all = (x ∷ fewer, one_more_first x fewer, (p, all_fewer P there x fewer xs join all))
chosen P x false there xs fewer p join all = (fewer, refl, all_fewer P there x fewer xs join all)

pub parity : (z : ℤ) → (b : Bool) × HasParity b z
parity z = elim (even_or_odd z) [ inl e ↦ (false, e) | inr e ↦ (true, e) ]

-- equal entries have the same violators
same_violator : (M N : ℕ → ℕ → ℤ) (rows columns P D : List ℕ) → AllByRecursion (Contains rows) P → AllByRecursion (Contains columns) D
    → ((i j : ℕ) → Contains rows i → Contains columns j → M i j ≡ N i j) → IsViolator M P D → IsViolator N P D
same_violator M N rows columns P D in_rows in_columns same v =
    violator_same M N P D
    (all_weaker (Contains rows) (λ i. AllByRecursion (λ j. M i j ≡ N i j) D) (λ i hi. all_weaker (Contains columns) (λ j. M i j ≡ N i j) (λ j hj. same i j hi hj) D in_columns) P in_rows) v

module _ (high wide : ℕ) (M N : ℕ → ℕ → ℤ) (r c : ℕ) (rows columns : List ℕ) (u : IsSign (M r c)) (r_in : Contains rows r) (c_in : Contains columns c) (rows_below : AllBelow high rows) (columns_below : AllBelow wide columns)
    (same : (i j : ℕ) → Contains rows i → Contains columns j → N i j ≡ pivot_entry M r c i j) where
  violated_before : ViolatedIn N (Contains rows) (Contains columns) → ViolatedIn M (Contains rows) (Contains columns)
  violated_before v =
      go (split_at 0 high r (odd_times v.R) (increases-odd_times high v.R (all_weaker (Contains rows) (λ x. x < high) (λ x h. contained_below high rows x rows_below h) v.R v.rows)))
      (split_at 0 wide c (odd_times v.C) (increases-odd_times wide v.C (all_weaker (Contains columns) (λ x. x < wide) (λ x h. contained_below wide columns x columns_below h) v.C v.columns)))
    where
      go : IsSplitAt r (odd_times v.R) → IsSplitAt c (odd_times v.C) → ViolatedIn M (Contains rows) (Contains columns)
      go s t =
          let P = odd_times v.R in
          let D = odd_times v.C in
          let in_rows = all-odd_times (Contains rows) v.R v.rows in
          let in_columns = all-odd_times (Contains columns) v.C v.columns in
          let row = parity (sum_over (odd_times v.R) (λ i. M i c)) in
          let column = parity (sum_over (odd_times v.C) (M r)) in
          let R = chosen (Contains rows) r row.0 s.there (odd_times v.R) s.others r_in s.joined in_rows in
          let C = chosen (Contains columns) c column.0 t.there (odd_times v.C) t.others c_in t.joined in_columns in
          record {
            R = R.0;
            C = C.0;
            rows = R.2;
            columns = C.2;
            violator = whole_before M r c s.there t.there row.0 column.0 s.others P t.others D R.0 C.0 u s.joined s.apart t.joined t.apart row.1 column.1 R.1 C.1
                (same_violator N (pivot_entry M r c) rows columns P D in_rows in_columns same (violator-odd_times N v.R v.C v.violator));
          }

-- ---- the entries of the submatrix

module _ (m : Matrix) (lines : LineSet) (place : Position) (is_rows : IsRowSet m lines.rows) (is_columns : IsColumnSet m lines.columns) where
  pub entry_among : (i j : ℕ) → Contains lines.rows i → Contains lines.columns j → entry (pivoted_part m lines place) i j ≡ pivot_entry (entry m) place.row place.column i j
  entry_among i j hi hj =
      entry-filled (height m) m.width (replaced_entry m lines place) i j (contained_below (height m) lines.rows i is_rows.in_range hi) (contained_below m.width lines.columns j is_columns.in_range hj)
      ∙ ap₂ (λ (s t : Bool). cond (s && t) (pivot_entry (entry m) place.row place.column i j) (entry m i j))
      (listed_from_has_line lines.rows lines.columns (Row i) hi) (listed_from_has_line lines.rows lines.columns (Column j) hj)

  pub place_of_part : IsEntry (entry m place.row place.column) → IsPlaceIn m lines place → IsPivotPlace m place.row place.column
  place_of_part small place_in = record {
    row_in = contained_below (height m) lines.rows place.row is_rows.in_range place_in.row;
    column_in = contained_below m.width lines.columns place.column is_columns.in_range place_in.column;
    nonzero = sign_of_entry (entry m place.row place.column) small place_in.nonzero;
  }

  -- on these lines a violator of the one matrix is one of the pivot of the other
  pub violator_of_pivot : (P D : List ℕ) → AreAmong lines P D → IsViolator (entry (pivoted_part m lines place)) P D → IsViolator (entry (pivot_at m place.row place.column)) P D
  violator_of_pivot P D among v = same_violator (entry (pivoted_part m lines place)) (entry (pivot_at m place.row place.column)) lines.rows lines.columns P D among.rows among.columns
      (λ i j hi hj. entry_among i j hi hj ∙ sym (entry-filled (height m) m.width (pivot_entry (entry m) place.row place.column) i j
      (contained_below (height m) lines.rows i is_rows.in_range hi) (contained_below m.width lines.columns j is_columns.in_range hj))) v

  -- no violator is among these lines if and only if none is among them after the pivot
  module _ (small : IsEntry (entry m place.row place.column)) (place_in : IsPlaceIn m lines place) where
    sign : IsSign (entry m place.row place.column)
    sign = sign_of_entry (entry m place.row place.column) small place_in.nonzero

    pub free_after_pivot : FreeIn (entry m) (Contains lines.rows) (Contains lines.columns) → FreeIn (entry (pivoted_part m lines place)) (Contains lines.rows) (Contains lines.columns)
    free_after_pivot free v = free (violated_before (height m) m.width (entry m) (entry (pivoted_part m lines place)) place.row place.column lines.rows lines.columns sign place_in.row place_in.column is_rows.in_range is_columns.in_range entry_among v)

    pub free_before_pivot : FreeIn (entry (pivoted_part m lines place)) (Contains lines.rows) (Contains lines.columns) → FreeIn (entry m) (Contains lines.rows) (Contains lines.columns)
    free_before_pivot free v = free (violated_before (height m) m.width (entry (pivoted_part m lines place)) (entry m) place.row place.column lines.rows lines.columns sign_after place_in.row place_in.column is_rows.in_range is_columns.in_range again v)
      where
        sign_after : IsSign (entry (pivoted_part m lines place) place.row place.column)
        sign_after = subst IsSign (sym (entry_among place.row place.column place_in.row place_in.column ∙ entry_there (entry m) place.row place.column)) sign

        again : (i j : ℕ) → Contains lines.rows i → Contains lines.columns j → entry m i j ≡ pivot_entry (entry (pivoted_part m lines place)) place.row place.column i j
        again i j hi hj = sym (
            pivot_entry_same (entry (pivoted_part m lines place)) (pivot_entry (entry m) place.row place.column) place.row place.column i j
            (entry_among place.row place.column place_in.row place_in.column) (entry_among i place.column hi place_in.column) (entry_among place.row j place_in.row hj) (entry_among i j hi hj)
            ∙ twice (entry m) place.row place.column sign i j)

-- ---- sets of lines among others

module _ (m : Matrix) (lines : LineSet) where
  pub none_among_from_free : FreeIn (entry m) (Contains lines.rows) (Contains lines.columns) → HasNoViolatorAmong m lines
  none_among_from_free free R C is_rows is_columns among v = free (record { R = R; C = C; rows = among.rows; columns = among.columns; violator = v })

  pub free_from_none_among : AllBelow (height m) lines.rows → AllBelow m.width lines.columns → HasNoViolatorAmong m lines → FreeIn (entry m) (Contains lines.rows) (Contains lines.columns)
  free_from_none_among rows_below columns_below none v = none (odd_times v.R) (odd_times v.C)
      (increasing_row_set m (odd_times v.R) (increases-odd_times (height m) v.R (all_weaker (Contains lines.rows) (λ x. x < height m) (λ x h. contained_below (height m) lines.rows x rows_below h) v.R v.rows)))
      (increasing_column_set m (odd_times v.C) (increases-odd_times m.width v.C (all_weaker (Contains lines.columns) (λ x. x < m.width) (λ x h. contained_below m.width lines.columns x columns_below h) v.C v.columns)))
      (record { rows = all-odd_times (Contains lines.rows) v.R v.rows; columns = all-odd_times (Contains lines.columns) v.C v.columns })
      (violator-odd_times (entry m) v.R v.C v.violator)

-- lines that are the same except one of these stay among them
stay : (lines : List ℕ) (line : ℕ) (xs made : List ℕ) → Contains lines line → AllByRecursion (Contains lines) xs → ((x : ℕ) → x ≢ line → IsIn x made ↔ IsIn x xs) → AllByRecursion (Contains lines) made
stay lines line xs made there all others = all_of_members (Contains lines) made (λ x h. elim (cases_eq x line) [
  | inl e ↦ subst (Contains lines) (sym e) there
  | inr apart ↦ all_in (Contains lines) xs all x ((others x apart).0 h)
])

pub lines_before_among : (m : Matrix) (lines : LineSet) (place : Position) (P D R C : List ℕ) → IsPlaceIn m lines place → AreAmong lines P D
    → AreLinesBefore m place.row place.column P D R C → AreAmong lines R C
lines_before_among m lines place P D R C place_in among before = record {
  rows = stay lines.rows place.row P R place_in.row among.rows before.other_rows;
  columns = stay lines.columns place.column D C place_in.column among.columns before.other_columns;
}

-- ---- the laws

pub part_pivots_take_violators_back : PartPivotsTakeViolatorsBack
part_pivots_take_violators_back m lines place P D R C small is_rows is_columns place_in p_set d_set among r_set c_set before = (
  lines_before_among m lines place P D R C place_in among before,
  λ v. pivots_take_violators_back m place.row place.column P D R C (place_of_part m lines place is_rows is_columns (small place.row place.column) place_in) p_set d_set r_set c_set before
      (violator_of_pivot m lines place is_rows is_columns P D among v),
)

pub part_pivots_keep_violators : PartPivotsKeepViolators
part_pivots_keep_violators m lines place small is_rows is_columns place_in = (
  λ none. none_among_from_free (pivoted_part m lines place) lines
      (free_after_pivot m lines place is_rows is_columns (small place.row place.column) place_in (free_from_none_among m lines is_rows.in_range is_columns.in_range none)),
  λ none. none_among_from_free m lines
      (free_before_pivot m lines place is_rows is_columns (small place.row place.column) place_in
      (free_from_none_among (pivoted_part m lines place) lines (subst (λ n. AllBelow n lines.rows) (sym (height-filled (height m) m.width (replaced_entry m lines place))) is_rows.in_range) is_columns.in_range none)),
)

pub replaced_is_small : (m : Matrix) (lines : LineSet) (place : Position) → HasTernaryEntries m → IsTernaryPivot m lines place → (i j : ℕ) → IsEntry (replaced_entry m lines place i j)
replaced_is_small m lines place small ternary i j = go (listed lines.rows lines.columns (Row i)) (listed lines.rows lines.columns (Column j)) refl refl
  where
    go : (s t : Bool) → listed lines.rows lines.columns (Row i) ≡ s → listed lines.rows lines.columns (Column j) ≡ t
        → IsEntry (cond (s && t) (pivot_entry (entry m) place.row place.column i j) (entry m i j))
    go true true e f = ternary i j (has_line_from_listed lines.rows lines.columns (Row i) e) (has_line_from_listed lines.rows lines.columns (Column j) f)
    go true false e f = small i j
    go false t e f = small i j

pub rectangular_filled : (h w : ℕ) (entries : ℕ → ℕ → ℤ) → IsRectangular (filled h w entries)
rectangular_filled h w entries i inside =
    ap length (get_or-map (λ row. map (entries row) (first_lines w)) (first_lines h) i 0 [] (let e = length-range_with_len 0 h in let high = height-filled h w entries in omega arith))
    ∙ length-map (first_lines w) (entries (get_or (first_lines h) i 0)) ∙ length-range_with_len 0 w

pub part_pivots_stay_matrices : PartPivotsStayMatrices
part_pivots_stay_matrices m lines place is ternary = record {
  rectangular = rectangular_filled (height m) m.width (replaced_entry m lines place);
  small = filled_small (height m) m.width (replaced_entry m lines place) (replaced_is_small m lines place is.small ternary);
  height_in = subst (λ n. n ≤ MAX_ROWS) (sym (height-filled (height m) m.width (replaced_entry m lines place))) is.height_in;
  width_in = is.width_in;
}
