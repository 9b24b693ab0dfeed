-- Each violator contains a minimal one, which is square and has determinant 2 or -2.
use Rattle.std.proofs.Common.{◌≡◌, ◌<◌, ◌≤◌, ◌⊎◌, inl, inr, ℕ, List, length, sym, subst, arith}
use Rattle.std.proofs.lemmas.Bool.{cases_lt}
use Rattle.cmr_base.specs.Matrix.{Matrix, height, entry, IsTernary}
use Rattle.cmr_base.specs.Determinants.{determinant}
use Rattle.cmr_base.specs.LineSets.{IsRowSet, IsColumnSet}
use Rattle.cmr_base.specs.Violator.{IsViolator}
use Rattle.cmr_base.proofs.IncreasingLists.{row_set_increases, column_set_increases}
use Rattle.ghouila.proofs.Expansions.{determinant_is}
use Rattle.ghouila.proofs.Sublists.{IsSublist}
use Rattle.determinant_two.specs.DeterminantTwo.{IsTwo}
use Rattle.determinant_two.specs.MinimalViolators.{IsViolatorOn, IsMinimalViolator}
use Rattle.determinant_two.specs.Laws.{ViolatorsContainMinimalViolators, MinimalViolatorsAreSquare, MinimalViolatorsHaveDeterminantTwo}
use Rattle.determinant_two.proofs.SearchedSublists.{sublist_members, sublist_same, sublist_of_members}
use Rattle.determinant_two.proofs.SmallestViolators.{no_smaller_violator, two_violates}
use Rattle.determinant_two.proofs.ViolatorsHaveDeterminantTwo.{HasSmallestTwo, smallest_in_violator, part_row_set, part_column_set}

module _ (m : Matrix) (rows columns : List ℕ) (ternary : IsTernary m) (row_set : IsRowSet m rows) (column_set : IsColumnSet m columns) (v : IsViolator (entry m) rows columns) where
  pub smallest : HasSmallestTwo (entry m) rows columns
  smallest = smallest_in_violator (entry m) ternary.small rows columns v

  smallest_rows : IsRowSet m smallest.rows
  smallest_rows = part_row_set m rows smallest.rows row_set smallest.rows_in

  smallest_columns : IsColumnSet m smallest.columns
  smallest_columns = part_column_set m columns smallest.columns column_set smallest.columns_in

  violator : IsViolator (entry m) smallest.rows smallest.columns
  violator = two_violates smallest.columns smallest.rows 0 m.width (entry m) (column_set_increases m smallest.columns smallest_columns) smallest.square smallest.smaller smallest.two

  pub within : IsViolatorOn m rows columns smallest.rows smallest.columns
  within = record {
    row_set = smallest_rows;
    column_set = smallest_columns;
    rows_among = sublist_members rows smallest.rows smallest.rows_in;
    columns_among = sublist_members columns smallest.columns smallest.columns_in;
    violator = violator;
  }

  no_part : (part_rows part_columns : List ℕ) → IsViolatorOn m smallest.rows smallest.columns part_rows part_columns → (part_rows ≡ smallest.rows) × (part_columns ≡ smallest.columns)
  no_part part_rows part_columns part = go (cases_lt (length part_rows) (length smallest.columns)) (cases_lt (length part_columns) (length smallest.columns))
    where
      rows_in : IsSublist part_rows smallest.rows
      rows_in = sublist_of_members 0 (height m) smallest.rows part_rows (row_set_increases m smallest.rows smallest_rows) (row_set_increases m part_rows part.row_set) part.rows_among

      columns_in : IsSublist part_columns smallest.columns
      columns_in = sublist_of_members 0 m.width smallest.columns part_columns
          (column_set_increases m smallest.columns smallest_columns) (column_set_increases m part_columns part.column_set) part.columns_among

      none : (length part_rows < length smallest.columns) ⊎ (length part_columns < length smallest.columns) → ⊥
      none fewer = no_smaller_violator (entry m) smallest.rows smallest.columns part_rows part_columns smallest.smaller rows_in columns_in fewer part.violator

      go : (length part_rows < length smallest.columns) ⊎ (length smallest.columns ≤ length part_rows)
          → (length part_columns < length smallest.columns) ⊎ (length smallest.columns ≤ length part_columns)
          → (part_rows ≡ smallest.rows) × (part_columns ≡ smallest.columns)
      go (inl few) columns = absurd (none (inl few))
      go (inr many) (inl few) = absurd (none (inr few))
      go (inr many) (inr all) = (
        sublist_same smallest.rows part_rows rows_in (let square = smallest.square in omega (arith, square, many)),
        sublist_same smallest.columns part_columns columns_in all,
      )

  pub minimal : IsMinimalViolator m smallest.rows smallest.columns
  minimal = record { row_set = smallest_rows; column_set = smallest_columns; violator = violator; minimal = no_part }

pub violators_contain_minimal_violators : ViolatorsContainMinimalViolators
violators_contain_minimal_violators m rows columns ternary row_set column_set v =
    let part = smallest m rows columns ternary row_set column_set v in
    (part.rows, part.columns, within m rows columns ternary row_set column_set v, minimal m rows columns ternary row_set column_set v)

square_with_two : (m : Matrix) (rows columns : List ℕ) → IsTernary m → IsMinimalViolator m rows columns → (length rows ≡ length columns) × IsTwo (determinant (entry m) rows columns)
square_with_two m rows columns ternary is =
    let part = smallest m rows columns ternary is.row_set is.column_set is.violator in
    let same = is.minimal part.rows part.columns (within m rows columns ternary is.row_set is.column_set is.violator) in
    subst (λ (xs : List ℕ). (length xs ≡ length columns) × IsTwo (determinant (entry m) xs columns)) same.0
    (subst (λ (xs : List ℕ). (length part.rows ≡ length xs) × IsTwo (determinant (entry m) part.rows xs)) same.1
    (part.square, subst IsTwo (sym (determinant_is (entry m) part.columns part.rows part.square)) part.two))

pub minimal_violators_are_square : MinimalViolatorsAreSquare
minimal_violators_are_square m rows columns ternary is = (square_with_two m rows columns ternary is).0

pub minimal_violators_have_determinant_two : MinimalViolatorsHaveDeterminantTwo
minimal_violators_have_determinant_two m rows columns ternary is = (square_with_two m rows columns ternary is).1
