-- Numbers and places of lines divide them into parts.
use Rattle.std.proofs.Common.{◌≡◌, ◌≢◌, ◌<◌, ◌∙◌, subst, sym, ℕ, pos, Bool, true, List, length, arith}
use Rattle.std.proofs.lemmas.List.{length-map}
use Rattle.std.proofs.lemmas.List.Elements.{Contains-get_or}
use Rattle.std.specs.List.{AllByRecursion, Contains}
use Rattle.cmr_base.specs.Components.{no_lines, part_at}
use Rattle.cmr_base.specs.Matrix.{entry}
use Rattle.cmr_base.proofs.Lists.{all_by_places, all_contained, all_unmapped}
use Rattle.sparse_matrix.specs.LineMarks.{is_marked}
use Rattle.sparse_matrix.specs.SparseRows.{SparseRows, AreSparseRows, matrix_of_runs, sparse_entry}
use Rattle.sparse_matrix.proofs.MarkedLines.{mark_inside}
use Rattle.sparse_matrix.proofs.Matrices.{matrix_entry}
use Rattle.core_parts.specs.CoreParts.{IsAtPlace, place_at}
use Rattle.part_numbers.specs.PartNumbering.{AreRowsTogether, part_number}
use Rattle.large_evidence.specs.declared.evidence.PartEvidence.{PartEvidence}
use Rattle.large_evidence.specs.declared.numbering.Side.TheVariants.{Rows, Columns}
use Rattle.large_evidence.specs.LineDivisions.{AreDividedInto, AreDividedParts, AreTheirPlaces, IsPlacedPart, lines_at, sets_of}

module _ (marks : List Bool) (numbers places : List ℕ) (lines : ℕ → List ℕ) (count : ℕ) (are : AreTheirPlaces marks numbers places lines count) where
  pub numbered_line : (part line : ℕ) → part < count → Contains (lines part) line → (is_marked marks line ≡ true) × (part_number numbers line ≡ part)
  numbered_line part line l h = all_contained (λ (line : ℕ). (is_marked marks line ≡ true) × (part_number numbers line ≡ part)) (lines part) line
      (all_by_places (λ (line : ℕ). (is_marked marks line ≡ true) × (part_number numbers line ≡ part)) (lines part) 0
      (λ place below. let is = are.numbered part l place below in (is.mark, is.number))) h

  pub divided_lines : AreDividedInto marks lines count
  divided_lines = record {
    within = λ part line l h. (numbered_line part line l h).0;
    all = λ line mark.
        let is = are.covered line mark in
        (part_number numbers line, is.below, subst (Contains (lines (part_number numbers line))) is.there.there (Contains-get_or (lines (part_number numbers line)) (place_at places line) 0 is.there.inside));
    once = λ part other line l k h g. sym (numbered_line part line l h).1 ∙ (numbered_line other line k g).1;
  }

module _ (m : SparseRows) (shape : AreSparseRows m) (row_marks column_marks : List Bool) (of_rows row_places of_columns column_places : List ℕ) (parts : List PartEvidence)
    (row_count : length row_marks ≡ length m.runs) (column_count : length column_marks ≡ m.width) (place_count : length column_places ≡ m.width)
    (rows_are : AreTheirPlaces row_marks of_rows row_places (lines_at Rows parts) (length parts))
    (columns_are : AreTheirPlaces column_marks of_columns column_places (lines_at Columns parts) (length parts))
    (together : AreRowsTogether (sparse_entry m) row_marks column_marks of_rows of_columns) where
  set_count : length (sets_of parts) ≡ length parts
  set_count = length-map parts (λ part. part.lines)

  one_number : (part row column : ℕ) → part < length parts → Contains (lines_at Rows parts part) row → is_marked column_marks column ≡ true → entry (matrix_of_runs m) row column ≢ pos 0
      → part_number of_columns column ≡ part
  one_number part row column l h mark n =
      let is = numbered_line row_marks of_rows row_places (lines_at Rows parts) (length parts) rows_are part row l h in
      together row is.0 column mark (λ e. n (matrix_entry m shape row column ∙ e)) ∙ is.1

  pub divided_parts : AreDividedParts (entry (matrix_of_runs m)) row_marks column_marks (sets_of parts)
  divided_parts = record {
    rows_divided = subst (AreDividedInto row_marks (lines_at Rows parts)) (sym set_count) (divided_lines row_marks of_rows row_places (lines_at Rows parts) (length parts) rows_are);
    columns_divided = subst (AreDividedInto column_marks (lines_at Columns parts)) (sym set_count)
        (divided_lines column_marks of_columns column_places (lines_at Columns parts) (length parts) columns_are);
    together = λ part other row column l k h g n.
        let inside : part < length parts = (let same = set_count in omega (arith, l, same)) in
        let other_inside : other < length parts = (let same = set_count in omega (arith, k, same)) in
        let is = numbered_line column_marks of_columns column_places (lines_at Columns parts) (length parts) columns_are other column other_inside g in
        sym (one_number part row column inside h is.0 n) ∙ is.1;
  }

  placed_part : (part : ℕ) → part < length (sets_of parts) → IsPlacedPart m column_marks column_places (part_at (sets_of parts) part)
  placed_part part l = record {
    rows = λ place below.
        let mark_below = mark_inside row_marks _ (rows_are.numbered part inside place below).mark in
        let same = row_count in
        omega (arith, mark_below, same);
    columns = λ place below.
        let mark_below = mark_inside column_marks _ (columns_are.numbered part inside place below).mark in
        let same = column_count in
        omega (arith, mark_below, same);
    mark_count = column_count;
    place_count = place_count;
    placed = record {
      mark = λ column h. (numbered_line column_marks of_columns column_places (lines_at Columns parts) (length parts) columns_are part column inside h).0;
      place = λ row column h mark n. subst (λ (number : ℕ). IsAtPlace (lines_at Columns parts number) column (place_at column_places column)) (one_number part row column inside h mark n)
          (columns_are.covered column mark).there;
    };
  }
    where
      inside : part < length parts
      inside = let same = set_count in omega (arith, l, same)

  pub placed_parts : AllByRecursion (λ part. IsPlacedPart m column_marks column_places part.lines) parts
  placed_parts = all_unmapped (IsPlacedPart m column_marks column_places) (λ part. part.lines) parts
      (all_by_places (IsPlacedPart m column_marks column_places) (sets_of parts) no_lines placed_part)
