-- The lines of the parts of a core, and their violators.
use Rattle.std.proofs.Common.{◌≢◌, ◌<◌, inl, inr, ℕ, ℤ, pos, List, [], length, get_or, ap, arith}
use Rattle.std.specs.Prelude.{◌↔◌}
use Rattle.std.proofs.lemmas.Bool.{cases_lt}
use Rattle.std.proofs.lemmas.List.{get_or_past}
use Rattle.std.proofs.lemmas.List.Elements.{Contains-get_or}
use Rattle.cmr_base.specs.declared.line_set.LineSet.{LineSet}
use Rattle.cmr_base.specs.Components.{part_at}
use Rattle.cmr_base.specs.LineSets.{IsColumnSet, IsRowSet, submatrix}
use Rattle.cmr_base.specs.Matrix.{Matrix, entry, height, row_of, IsRectangular, IsTernary}
use Rattle.cmr_base.specs.Violator.{HasNoViolator}
use Rattle.ghouila.proofs.MarkedMembers.{iff_then}
use Rattle.ghouila.proofs.ConnectedParts.{parts_decide}
use Rattle.sparse_core.proofs.Removals.{removals_decide}
use Rattle.core_parts.specs.CoreParts.{AreCoreParts}

-- ---- a nonzero is within the matrix

module _ (m : Matrix) where
  row_inside : (row column : ℕ) → entry m row column ≢ pos 0 → row < height m
  row_inside row column n = elim (cases_lt row (height m)) [
    | inl l ↦ l
    | inr l ↦ absurd (n (ap (λ (xs : List ℤ). get_or xs column (pos 0)) (get_or_past m.rows row [] l)))
  ]

  column_inside : IsRectangular m → (row column : ℕ) → entry m row column ≢ pos 0 → column < m.width
  column_inside is row column n = elim (cases_lt column m.width) [
    | inl l ↦ l
    | inr l ↦ absurd (n (get_or_past (row_of m row) column (pos 0) (let long = is row (row_inside row column n) in omega (arith, long, l))))
  ]

-- ---- the lines of a part

module _ (m : Matrix) (parts : List LineSet) (is : IsRectangular m) (are : AreCoreParts m parts) (a : ℕ) (below : a < length parts) where
  pub part_row_set : IsRowSet m (part_at parts a).rows
  part_row_set = record {
    increasing = (are.connected a below).rows_increase;
    in_range = λ k l.
        let row = get_or (part_at parts a).rows k 0 in
        let two = are.core.greatest.two.rows_have row ((are.connected a below).rows_within row (Contains-get_or (part_at parts a).rows k 0 l)) in
        row_inside m row two.first two.first_nonzero;
  }

  pub part_column_set : IsColumnSet m (part_at parts a).columns
  part_column_set = record {
    increasing = (are.connected a below).columns_increase;
    in_range = λ k l.
        let column = get_or (part_at parts a).columns k 0 in
        let two = are.core.greatest.two.columns_have column ((are.connected a below).columns_within column (Contains-get_or (part_at parts a).columns k 0 l)) in
        column_inside m is two.first column two.first_nonzero;
  }

-- ---- the parts decide

pub core_parts_decide : (m : Matrix) (parts : List LineSet) → IsTernary m → AreCoreParts m parts
    → HasNoViolator m ↔ ((a : ℕ) → a < length parts → HasNoViolator (submatrix m (part_at parts a).rows (part_at parts a).columns))
core_parts_decide m parts is are = iff_then (removals_decide m are.core.steps are.core_rows are.core_columns is are.core.removal) (parts_decide m are.core_rows are.core_columns parts are.cover)
