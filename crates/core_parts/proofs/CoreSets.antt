-- The sets of lines that are found are the connected parts of the core.
use Rattle.std.proofs.Common.{◌≡◌, ◌<◌, ◌∙◌, ℕ, ℤ, Bool, true, List, [], length, replicate, ap, ap₂, sym, subst, arith}
use Rattle.std.proofs.lemmas.List.{ext_get_or, get_or-map, length-map, length-replicate}
use Rattle.std.proofs.lemmas.List.FromFn.{length-range_with_len}
use Rattle.std.specs.List.{AllByRecursion}
use Rattle.std.specs.List.Sorted.{IsStrictlyIncreasing}
use Rattle.cmr_base.specs.declared.line_set.LineSet.{LineSet}
use Rattle.cmr_base.specs.Components.{no_lines, part_at}
use Rattle.cmr_base.specs.LineSets.{first_lines}
use Rattle.cmr_base.specs.Matrix.{entry}
use Rattle.cmr_base.proofs.FilledMatrices.{line_at}
use Rattle.cmr_base.proofs.IncreasingLists.{increases_along}
use Rattle.cmr_base.proofs.Lists.{all_by_places, get_or-replicated}
use Rattle.ghouila.specs.Found.{marked}
use Rattle.ghouila.proofs.Marks.{marked_increases}
use Rattle.sparse_matrix.specs.LineMarks.{is_marked}
use Rattle.sparse_matrix.specs.SparseRows.{SparseRows, matrix_of_runs}
use Rattle.sparse_core.specs.TwoCores.{IsThinRemoval, IsTwoCore}
use Rattle.sparse_core.specs.declared.removal.TwoCore.{TwoCore}
use Rattle.part_numbers.specs.declared.search.Parts.{Parts}
use Rattle.part_numbers.specs.ConnectedParts.{AreConnectedParts, AreInOrder, IsConnectedPart, first_line}
use Rattle.part_numbers.specs.PartNumbering.{ArePartsBy, lines_of_part, part_number, parts_of}
use Rattle.part_numbers.proofs.NumberedParts.{line_is, length-parts, numbered_lines_are_parts, part_is}
use Rattle.core_parts.specs.declared.sets.CoreParts.{CoreParts}
use Rattle.core_parts.specs.CoreParts.{AreCoreParts, AreDivided, HasColumnsAtPlaces, IsAtPlace, IsCoreOf, place_at}
use Rattle.core_parts.specs.SetsOfParts.{AreSetsOf, HaveColumns, HaveRows}
use Rattle.core_parts.proofs.MarkedRuns.{height_of_runs}

-- ---- the sets

pub empty_columns : (count : ℕ) (sets : List LineSet) → sets ≡ replicate count no_lines → (part : ℕ) → (part_at sets part).columns ≡ []
empty_columns count sets e part = ap (λ (all : List LineSet). (part_at all part).columns) e ∙ ap (λ (lines : LineSet). lines.columns) (get_or-replicated count part no_lines)

module _ (row_marks column_marks : List Bool) (of_rows of_columns : List ℕ) (count : ℕ) where
  abbrev part_named : ℕ → LineSet
  part_named part = record { rows = lines_of_part row_marks of_rows part; columns = lines_of_part column_marks of_columns part }

  many_parts : length (parts_of row_marks column_marks of_rows of_columns count) ≡ count
  many_parts = length-map (first_lines count) part_named ∙ length-range_with_len 0 count

  pub sets_are : (first rowed sets : List LineSet) → first ≡ replicate count no_lines → HaveRows first row_marks of_rows rowed → HaveColumns rowed column_marks of_columns sets
      → sets ≡ parts_of row_marks column_marks of_rows of_columns count
  sets_are first rowed sets e rows columns = ext_get_or no_lines sets (parts_of row_marks column_marks of_rows of_columns count) (long ∙ sym many_parts) same
    where
      long_rows : length rowed ≡ count
      long_rows = rows.size ∙ ap length e ∙ length-replicate count no_lines

      long : length sets ≡ count
      long = columns.size ∙ long_rows

      same : (part : ℕ) → part < length sets → part_at sets part ≡ part_at (parts_of row_marks column_marks of_rows of_columns count) part
      same part l =
          let below : part < count = (let size = long in omega (arith, l, size)) in
          let below_rows : part < length first = (let size = rows.size in let all = long_rows in omega (arith, below, size, all)) in
          let below_columns : part < length rowed = (let all = long_rows in omega (arith, below, all)) in
          ap₂ (λ (rows columns : List ℕ). let lines : LineSet = record { rows = rows; columns = columns } in lines)
          (columns.rows part ∙ rows.rows part below_rows) (columns.columns part below_columns)
          ∙ sym (get_or-map part_named (first_lines count) part 0 no_lines (let size = length-range_with_len 0 count in omega (arith, below, size)) ∙ ap part_named (line_at count part below))

-- ---- the parts

marks_increase : (marks : List Bool) → IsStrictlyIncreasing (marked marks)
marks_increase marks = increases_along 0 (length marks) (marked marks) (marked_increases 0 (length marks) marks (omega arith))

module _ (m : SparseRows) (core : TwoCore) (parts : Parts) where
  abbrev M : ℕ → ℕ → ℤ
  M = entry (matrix_of_runs m)

  abbrev row_marks : List Bool
  row_marks = core.rows.items

  abbrev column_marks : List Bool
  column_marks = core.columns.items

  abbrev of_rows : List ℕ
  of_rows = parts.of_rows.items

  abbrev of_columns : List ℕ
  of_columns = parts.of_columns.items

  abbrev sets : List LineSet
  sets = parts_of row_marks column_marks of_rows of_columns parts.count

  pub core_is : IsTwoCore M (marked row_marks) (marked column_marks)
      → IsThinRemoval M (first_lines (length m.runs)) (first_lines m.width) core.steps.items (marked row_marks) (marked column_marks)
      → IsCoreOf (matrix_of_runs m) (marked row_marks) (marked column_marks)
  core_is greatest removal = record {
    rows_increase = marks_increase row_marks;
    columns_increase = marks_increase column_marks;
    greatest = greatest;
    steps = core.steps.items;
    removal = subst (λ (n : ℕ). IsThinRemoval M (first_lines n) (first_lines m.width) core.steps.items (marked row_marks) (marked column_marks)) (sym (height_of_runs m)) removal;
  }

  module _ (are : ArePartsBy M row_marks column_marks of_rows of_columns parts.count) where
    size : length sets ≡ parts.count
    size = length-parts M row_marks column_marks of_rows of_columns parts.count are

    named : (part : ℕ) → part < length sets → part_at sets part ≡ part_named row_marks column_marks of_rows of_columns parts.count part
    named part l = part_is M row_marks column_marks of_rows of_columns parts.count are part (let many = size in omega (arith, l, many))

    pub core_parts_are : IsCoreOf (matrix_of_runs m) (marked row_marks) (marked column_marks) → AreConnectedParts M row_marks column_marks of_rows of_columns parts.count
        → AreInOrder row_marks of_rows parts.count → AreCoreParts (matrix_of_runs m) sets
    core_parts_are core_of connected ordered = record {
      core_rows = marked row_marks;
      core_columns = marked column_marks;
      core = core_of;
      cover = numbered_lines_are_parts M row_marks column_marks of_rows of_columns parts.count are;
      connected = λ a l. subst (λ (lines : LineSet). IsConnectedPart M (marked row_marks) (marked column_marks) lines.rows lines.columns) (sym (named a l))
          (connected a (let many = size in omega (arith, l, many)));
      ordered = λ a b l h.
          let below : b < parts.count = (let many = size in omega (arith, h, many)) in
          let less = ordered a b l below in
          let here = ap (λ (lines : LineSet). first_line lines.rows) (named a (omega (arith, l, h))) in
          let there = ap (λ (lines : LineSet). first_line lines.rows) (named b h) in
          omega (arith, less, here, there);
    }

    module _ (places : List ℕ) (place : (line : ℕ) → is_marked column_marks line ≡ true → IsAtPlace (lines_of_part column_marks of_columns
        (part_number of_columns line)) line (place_at places line)) where
      placed_part : (part : ℕ) → HasColumnsAtPlaces M column_marks places (part_named row_marks column_marks of_rows of_columns parts.count part)
      placed_part part = record {
        mark = λ column h. (line_is column_marks of_columns part column h).0;
        place = λ row column h mark n.
            let row_is = line_is row_marks of_rows part row h in
            subst (λ (number : ℕ). IsAtPlace (lines_of_part column_marks of_columns number) column (place_at places column)) (are.together row row_is.0 column mark n ∙ row_is.1) (place column mark);
      }

      placed_sets : AllByRecursion (HasColumnsAtPlaces M column_marks places) sets
      placed_sets = all_by_places (HasColumnsAtPlaces M column_marks places) sets no_lines (λ part l. subst (HasColumnsAtPlaces M column_marks places) (sym (named part l)) (placed_part part))

    pub divided_are : (divided : CoreParts) → length row_marks ≡ length m.runs → length column_marks ≡ m.width → AreSetsOf core parts divided → AreCoreParts (matrix_of_runs m) sets
        → AreDivided m divided
    divided_are divided rows columns found core_parts = record {
      columns = ap length found.columns ∙ columns;
      places = found.places.size ∙ columns;
      parts = subst (AreCoreParts (matrix_of_runs m)) (sym found.sets) core_parts;
      placed = subst (λ (marks : List Bool). AllByRecursion (HasColumnsAtPlaces M marks divided.places.items) divided.sets.items) (sym found.columns)
          (subst (AllByRecursion (HasColumnsAtPlaces M column_marks divided.places.items)) (sym found.sets) (placed_sets divided.places.items found.places.place));
    }
