-- The parts that a search has found, and one connected part.
use Rattle.std.proofs.Common.{◌≡◌, ◌≢◌, ◌<◌, ◌≤◌, ◌∙◌, inl, inr, ℕ, ℤ, pos, true, List, [], ◌∷◌, length, sym, arith}
use Rattle.std.specs.List.{Contains}
use Rattle.std.specs.List.Sorted.{IsStrictlyIncreasing}
use Rattle.cmr_base.specs.declared.line.Line.TheVariants.{Row, Column}
use Rattle.cmr_base.specs.Matrix.{entry}
use Rattle.cmr_base.proofs.Lists.{contains_first}
use Rattle.cmr_base.proofs.ListsWithout.{contains_from_in, head_below, in_from_contains}
use Rattle.cmr_base.proofs.Places.{increasing_same}
use Rattle.ghouila.specs.Found.{marked}
use Rattle.sparse_matrix.specs.LineMarks.{is_marked}
use Rattle.sparse_matrix.specs.SparseRows.{SparseRows, matrix_of_runs}
use Rattle.sparse_matrix.proofs.MarkedLines.{contains_marked, mark_inside, marked_contains}
use Rattle.sparse_core.specs.declared.removal.TwoCore.{TwoCore}
use Rattle.sparse_core.specs.TwoCores.{HaveTwo}
use Rattle.part_numbers.specs.declared.reached.Search.{Search}
use Rattle.part_numbers.specs.PartNumbering.{ArePartsBy, lines_of_part}
use Rattle.part_numbers.specs.ConnectedParts.{AreApartWithin, AreConnectedParts, AreInOrder, IsConnectedPart, first_line}
use Rattle.part_numbers.specs.PartSearches.{AreMarksOf, FollowsAll, HasRowsBefore, IsReachedWith, is_reached}
use Rattle.part_numbers.proofs.NumberedParts.{is_line, line_is, part_increases}

-- ---- the first of some increasing lines

first_contained : (lines : List ℕ) (line : ℕ) → Contains lines line → Contains lines (first_line lines)
first_contained [] line h = absurd (let below = h.1 in omega (arith, below))
first_contained (first ∷ lines) line h = contains_first first lines

first_least : (lines : List ℕ) (line : ℕ) → IsStrictlyIncreasing lines → Contains lines line → first_line lines ≤ line
first_least [] line increase h = absurd (let below = h.1 in omega (arith, below))
first_least (first ∷ lines) line increase h = elim (in_from_contains (first ∷ lines) line h) [
  | inl e ↦ omega (arith, e)
  | inr later ↦ let above = head_below first line lines increase later in omega (arith, above)
]

-- ---- the parts that are found

module _ (m : SparseRows) (core : TwoCore) (search : Search) (count : ℕ) (marks : AreMarksOf m core)
    (two : HaveTwo (entry (matrix_of_runs m)) (marked core.rows.items) (marked core.columns.items)) (has : FollowsAll m core count search)
    (before : HasRowsBefore core search (length m.runs) count) where
  abbrev M : ℕ → ℕ → ℤ
  M = entry (matrix_of_runs m)

  row_reached : (row : ℕ) → is_marked core.rows.items row ≡ true → is_reached search (Row row) ≡ true
  row_reached row h = before.reached row (let below = mark_inside core.rows.items row h in let long = marks.rows in omega (arith, below, long)) h

  nonzero_together : (row column : ℕ) → is_marked core.rows.items row ≡ true → is_marked core.columns.items column ≡ true → M row column ≢ pos 0
      → IsReachedWith search (Column column) (Row row)
  nonzero_together row column h g n = has.followed (Row row) (row_reached row h) (Column column) g n

  column_reached : (column : ℕ) → is_marked core.columns.items column ≡ true → is_reached search (Column column) ≡ true
  column_reached column h =
      let nonzeros = two.columns_have column (contains_marked core.columns.items column h) in
      (nonzero_together nonzeros.first column (marked_contains core.rows.items nonzeros.first nonzeros.first_in) h nonzeros.first_nonzero).reached

  pub found_parts : ArePartsBy M core.rows.items core.columns.items search.of_rows.items search.of_columns.items count
  found_parts = record {
    rows_below = λ row h. has.below (Row row) (row_reached row h);
    columns_below = λ column h. has.below (Column column) (column_reached column h);
    together = λ row h column g n. (nonzero_together row column h g n).number;
  }

  abbrev part_rows : ℕ → List ℕ
  part_rows part = lines_of_part core.rows.items search.of_rows.items part

  abbrev part_columns : ℕ → List ℕ
  part_columns part = lines_of_part core.columns.items search.of_columns.items part

  part_apart : (part : ℕ) → AreApartWithin M (marked core.rows.items) (marked core.columns.items) (part_rows part) (part_columns part)
  part_apart part row column in_rows in_columns n =
      let row_mark = marked_contains core.rows.items row in_rows in
      let column_mark = marked_contains core.columns.items column in_columns in
      let same = (nonzero_together row column row_mark column_mark n).number in (
        λ h. is_line core.columns.items search.of_columns.items part column column_mark (same ∙ (line_is core.rows.items search.of_rows.items part row h).1),
        λ h. is_line core.rows.items search.of_rows.items part row row_mark (sym same ∙ (line_is core.columns.items search.of_columns.items part column h).1),
      )

  part_row : (part : ℕ) → part < count → (row : ℕ) × Contains (part_rows part) row
  part_row part l =
      let first = before.started part l in
      (first.first, is_line core.rows.items search.of_rows.items part first.first (has.searched.within (Row first.first) first.reached) first.number)

  pub found_connected : AreConnectedParts M core.rows.items core.columns.items search.of_rows.items search.of_columns.items count
  found_connected part l = record {
    rows_increase = part_increases core.rows.items search.of_rows.items part;
    columns_increase = part_increases core.columns.items search.of_columns.items part;
    rows_within = λ row h. contains_marked core.rows.items row (line_is core.rows.items search.of_rows.items part row h).0;
    columns_within = λ column h. contains_marked core.columns.items column (line_is core.columns.items search.of_columns.items part column h).0;
    apart = part_apart part;
    some = part_row part l;
    least = λ R C row apart h shared. let here = line_is core.rows.items search.of_rows.items part row h in (
      λ other g.
          let there = line_is core.rows.items search.of_rows.items part other g in
          (has.searched.inseparable (Row row) (Row other) (row_reached row here.0) (record { reached = row_reached other there.0; number = there.1 ∙ sym here.1 }) R C apart).0 shared,
      λ column g.
          let there = line_is core.columns.items search.of_columns.items part column g in
          (has.searched.inseparable (Row row) (Column column) (row_reached row here.0) (record { reached = column_reached column there.0; number = there.1 ∙ sym here.1 }) R C apart).0 shared,
    );
  }

  pub found_in_order : AreInOrder core.rows.items search.of_rows.items count
  found_in_order part later l below =
      let some = part_row later below in
      let first = first_line (part_rows later) in
      let is = line_is core.rows.items search.of_rows.items later first (first_contained (part_rows later) some.0 some.1) in
      let earlier = before.ordered first part (row_reached first is.0) (let number = is.1 in omega (arith, number, l)) in
      let there = is_line core.rows.items search.of_rows.items part earlier.first (has.searched.within (Row earlier.first) earlier.reached) earlier.number in
      let least = first_least (part_rows part) earlier.first (part_increases core.rows.items search.of_rows.items part) there in
      let before_first = earlier.before in
      omega (arith, least, before_first)

-- ---- one connected part

pub one_connected_part : (M : ℕ → ℕ → ℤ) (core_rows core_columns rows columns R C : List ℕ) (row : ℕ) → IsConnectedPart M core_rows core_columns rows columns
    → IsConnectedPart M core_rows core_columns R C → Contains rows row → Contains R row → (rows ≡ R) × (columns ≡ C)
one_connected_part M core_rows core_columns rows columns R C row one other h g =
    let within = one.least R C row other.apart h g in
    let back = other.least rows columns row one.apart g h in (
      increasing_same rows R one.rows_increase other.rows_increase
          (λ x i. in_from_contains R x (within.0 x (contains_from_in rows x i))) (λ x i. in_from_contains rows x (back.0 x (contains_from_in R x i))),
      increasing_same columns C one.columns_increase other.columns_increase
          (λ x i. in_from_contains C x (within.1 x (contains_from_in columns x i))) (λ x i. in_from_contains columns x (back.1 x (contains_from_in C x i))),
    )
