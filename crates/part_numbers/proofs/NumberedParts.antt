-- Lines of equal numbers are parts.
use Rattle.std.proofs.Common.{◌≡◌, ◌≢◌, ◌<◌, ◌∙◌, inl, inr, ℕ, ℤ, pos, Bool, true, List, length, nat_eq, refl, sym, subst, arith}
use Rattle.std.specs.Prelude.{◌↔◌}
use Rattle.std.specs.List.{Contains}
use Rattle.std.specs.List.Sorted.{IsStrictlyIncreasing}
use Rattle.std.proofs.lemmas.List.{length-map}
use Rattle.std.proofs.lemmas.List.Kept.{IsStrictlyIncreasing-filter}
use Rattle.std.proofs.lemmas.List.FromFn.{get_or-map-range_with_len, length-range_with_len}
use Rattle.cmr_base.specs.declared.line_set.LineSet.{LineSet}
use Rattle.cmr_base.specs.Matrix.{Matrix, entry, is_nonzero}
use Rattle.cmr_base.specs.LineSets.{first_lines, submatrix}
use Rattle.cmr_base.specs.Violator.{HasNoViolator}
use Rattle.cmr_base.specs.Components.{no_lines, part_at, ArePartsOf}
use Rattle.cmr_base.proofs.Booleans.{two_cases, eq_of, is_eq, nonzero_is, zero_is}
use Rattle.cmr_base.proofs.IncreasingLists.{increases_along}
use Rattle.cmr_base.proofs.ListsWithout.{in_from_contains, contains_from_in}
use Rattle.cmr_base.proofs.RowLists.{filter_in, in_filter}
use Rattle.ghouila.specs.Found.{marked}
use Rattle.ghouila.proofs.ConnectedParts.{parts_decide}
use Rattle.ghouila.proofs.MarkedMembers.{in_marked}
use Rattle.ghouila.proofs.Marks.{marked_increases}
use Rattle.sparse_matrix.specs.LineMarks.{is_marked}
use Rattle.sparse_matrix.proofs.MarkedLines.{contains_marked, marked_contains}
use Rattle.part_numbers.specs.PartNumbering.{part_number, lines_of_part, parts_of, ArePartsBy}

-- a line of a part is marked and has its number
pub line_is : (marks : List Bool) (numbers : List ℕ) (part line : ℕ) → Contains (lines_of_part marks numbers part) line → (is_marked marks line ≡ true) × (part_number numbers line ≡ part)
line_is marks numbers part line h =
    let selected = in_filter (λ x. nat_eq (part_number numbers x) part) line (marked marks) (in_from_contains (lines_of_part marks numbers part) line h) in
    ((in_marked marks line).0 selected.0, eq_of (part_number numbers line) part selected.1)

pub is_line : (marks : List Bool) (numbers : List ℕ) (part line : ℕ) → is_marked marks line ≡ true → part_number numbers line ≡ part → Contains (lines_of_part marks numbers part) line
is_line marks numbers part line mark e = contains_from_in (lines_of_part marks numbers part) line
    (filter_in (λ x. nat_eq (part_number numbers x) part) line (marked marks) ((in_marked marks line).1 mark) (is_eq (part_number numbers line) part e))

pub part_increases : (marks : List Bool) (numbers : List ℕ) (part : ℕ) → IsStrictlyIncreasing (lines_of_part marks numbers part)
part_increases marks numbers part = IsStrictlyIncreasing-filter (λ line. nat_eq (part_number numbers line) part) (marked marks)
    (increases_along 0 (length marks) (marked marks) (marked_increases 0 (length marks) marks (omega arith)))

module _ (M : ℕ → ℕ → ℤ) (row_marks column_marks : List Bool) (of_rows of_columns : List ℕ) (count : ℕ) (is : ArePartsBy M row_marks column_marks of_rows of_columns count) where
  abbrev parts : List LineSet
  parts = parts_of row_marks column_marks of_rows of_columns count

  abbrev part_named : ℕ → LineSet
  part_named part = record { rows = lines_of_part row_marks of_rows part; columns = lines_of_part column_marks of_columns part }

  pub length-parts : length parts ≡ count
  length-parts = length-map (first_lines count) part_named ∙ length-range_with_len 0 count

  pub part_is : (part : ℕ) → part < count → part_at parts part ≡ part_named part
  part_is part l = get_or-map-range_with_len part_named 0 count part part no_lines l (omega arith)

  below : (a : ℕ) → a < length parts → a < count
  below a l = let part_count = length-parts in omega (arith, l, part_count)

  above : (a : ℕ) → a < count → a < length parts
  above a l = let part_count = length-parts in omega (arith, l, part_count)

  row_is : (a r : ℕ) → a < length parts → Contains (part_at parts a).rows r → (is_marked row_marks r ≡ true) × (part_number of_rows r ≡ a)
  row_is a r l h = line_is row_marks of_rows a r (subst (λ (p : LineSet). Contains p.rows r) (part_is a (below a l)) h)

  column_is : (a c : ℕ) → a < length parts → Contains (part_at parts a).columns c → (is_marked column_marks c ≡ true) × (part_number of_columns c ≡ a)
  column_is a c l h = line_is column_marks of_columns a c (subst (λ (p : LineSet). Contains p.columns c) (part_is a (below a l)) h)

  apart : (a b r c : ℕ) → a < length parts → b < length parts → a ≢ b → Contains (part_at parts a).rows r → Contains (part_at parts b).columns c → M r c ≡ pos 0
  apart a b r c la lb differ h g = elim (two_cases (is_nonzero (M r c))) [
    | inl t ↦
        let row_numbered = row_is a r la h in
        let column_numbered = column_is b c lb g in
        absurd (differ (sym row_numbered.1 ∙ sym (is.together r row_numbered.0 c column_numbered.0 (nonzero_is (M r c) t)) ∙ column_numbered.1))
    | inr f ↦ zero_is (M r c) f
  ]

  pub numbered_lines_are_parts : ArePartsOf M (marked row_marks) (marked column_marks) parts
  numbered_lines_are_parts = record {
    rows_within = λ a l r h. contains_marked row_marks r (row_is a r l h).0;
    columns_within = λ a l c h. contains_marked column_marks c (column_is a c l h).0;
    rows_all = λ r h. let row_mark = marked_contains row_marks r h in let number_below = is.rows_below r row_mark in (
      part_number of_rows r,
      above (part_number of_rows r) number_below,
      subst (λ (p : LineSet). Contains p.rows r) (sym (part_is (part_number of_rows r) number_below)) (is_line row_marks of_rows (part_number of_rows r) r row_mark refl),
    );
    columns_all = λ c h. let column_mark = marked_contains column_marks c h in let number_below = is.columns_below c column_mark in (
      part_number of_columns c,
      above (part_number of_columns c) number_below,
      subst (λ (p : LineSet). Contains p.columns c) (sym (part_is (part_number of_columns c) number_below)) (is_line column_marks of_columns (part_number of_columns c) c column_mark refl),
    );
    zero = apart;
  }

pub numbered_parts_decide : (m : Matrix) (row_marks column_marks : List Bool) (of_rows of_columns : List ℕ) (count : ℕ) → ArePartsBy (entry m) row_marks column_marks of_rows of_columns count
    → HasNoViolator (submatrix m (marked row_marks) (marked column_marks))
    ↔ ((part : ℕ) → part < count → HasNoViolator (submatrix m (lines_of_part row_marks of_rows part) (lines_of_part column_marks of_columns part)))
numbered_parts_decide m row_marks column_marks of_rows of_columns count is = (
  λ free part l. subst (λ (p : LineSet). HasNoViolator (submatrix m p.rows p.columns)) (named part l) (decide.0 free part (let part_count = size in omega (arith, l, part_count))),
  λ all. decide.1 (λ part l. let in_count : part < count = (let part_count = size in omega (arith, l, part_count)) in
      subst (λ (p : LineSet). HasNoViolator (submatrix m p.rows p.columns)) (sym (named part in_count)) (all part in_count)),
)
  where
    sets : List LineSet
    sets = parts_of row_marks column_marks of_rows of_columns count

    size : length sets ≡ count
    size = length-parts (entry m) row_marks column_marks of_rows of_columns count is

    named : (part : ℕ) → part < count → part_at sets part ≡ record { rows = lines_of_part row_marks of_rows part; columns = lines_of_part column_marks of_columns part }
    named = part_is (entry m) row_marks column_marks of_rows of_columns count is

    decide : HasNoViolator (submatrix m (marked row_marks) (marked column_marks))
        ↔ ((a : ℕ) → a < length sets → HasNoViolator (submatrix m (part_at sets a).rows (part_at sets a).columns))
    decide = parts_decide m (marked row_marks) (marked column_marks) sets (numbered_lines_are_parts (entry m) row_marks column_marks of_rows of_columns count is)
