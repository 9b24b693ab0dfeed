-- Sets with the same lines are equal.
use Rattle.std.proofs.Common.{◌≡◌, ◌<◌, ◌∙◌, inl, inr, ℕ, true, List, [], ◌∷◌, refl, ap, ap₂, sym, arith}
use Rattle.std.specs.List.Sorted.{IsStrictlyIncreasing}
use Rattle.cmr_base.specs.declared.line.Line.{Line}
use Rattle.cmr_base.specs.declared.line.Line.TheVariants.{Row, Column}
use Rattle.cmr_base.specs.declared.line_set.LineSet.{LineSet}
use Rattle.cmr_base.specs.Matrix.{Matrix, height}
use Rattle.cmr_base.specs.LineSets.{IsRowSet, IsColumnSet}
use Rattle.cmr_base.specs.Separations.{Lines, listed}
use Rattle.cmr_base.specs.Seeds.{IsLine}
use Rattle.cmr_base.proofs.Members.{IsWithin, all_in}
use Rattle.cmr_base.proofs.ListsWithout.{head_below, increasing_tail}
use Rattle.cmr_base.proofs.ListedLines.{in_from_listed, listed_from_in}
use Rattle.cmr_base.proofs.IncreasingLists.{increasing_below, row_set_increases, column_set_increases}

-- increasing lists of the same numbers
pub same_numbers : (xs ys : List ℕ) → IsStrictlyIncreasing xs → IsStrictlyIncreasing ys → IsWithin xs ys → IsWithin ys xs → xs ≡ ys
same_numbers [] [] increases increases' up down = refl
same_numbers [] (y ∷ ys) increases increases' up down = absurd (down y (inl refl))
same_numbers (x ∷ xs) [] increases increases' up down = absurd (up x (inl refl))
same_numbers (x ∷ xs) (y ∷ ys) increases increases' up down =
    ap (λ (n : ℕ). n ∷ xs) first ∙ ap (λ (ns : List ℕ). y ∷ ns) (same_numbers xs ys (increasing_tail x xs increases) (increasing_tail y ys increases') later later')
  where
    first : x ≡ y
    first = elim (up x (inl refl)) [
      | inl e ↦ e
      | inr g ↦ elim (down y (inl refl)) [
        | inl e ↦ sym e
        | inr h ↦ absurd (let a = head_below y x ys increases' g in let b = head_below x y xs increases h in omega arith)
      ]
    ]

    later : IsWithin xs ys
    later z g = elim (up z (inr g)) [
      | inl e ↦ absurd (let a = head_below x z xs increases g in let same = first in omega arith)
      | inr h ↦ h
    ]

    later' : IsWithin ys xs
    later' z g = elim (down z (inr g)) [
      | inl e ↦ absurd (let a = head_below y z ys increases' g in let same = first in omega arith)
      | inr h ↦ h
    ]

-- the lines of a matrix that the first test has are those that the second has
abbrev pub HasAllOf : Matrix → Lines → Lines → Type 0
HasAllOf m some others = (line : Line) → IsLine (height m) m.width line → some line ≡ true → others line ≡ true

abbrev pub lines_in : LineSet → Lines
lines_in set = listed set.rows set.columns

pub record IsSet (m : Matrix) (set : LineSet) : Type 0 where
  pub rows : IsRowSet m set.rows
  pub columns : IsColumnSet m set.columns

rows_within : (m : Matrix) (s t : LineSet) → IsSet m s → HasAllOf m (lines_in s) (lines_in t) → IsWithin s.rows t.rows
rows_within m s t is has x h =
    in_from_listed x t.rows (has (Row x) (all_in (λ row. row < height m) s.rows (increasing_below 0 (height m) s.rows (row_set_increases m s.rows is.rows)) x h) (listed_from_in x s.rows h))

columns_within : (m : Matrix) (s t : LineSet) → IsSet m s → HasAllOf m (lines_in s) (lines_in t) → IsWithin s.columns t.columns
columns_within m s t is has x h =
    in_from_listed x t.columns (has (Column x) (all_in (λ column. column < m.width) s.columns (increasing_below 0 m.width s.columns (column_set_increases m s.columns is.columns)) x h) (listed_from_in x s.columns h))

pub same_sets : (m : Matrix) (s t : LineSet) → IsSet m s → IsSet m t → HasAllOf m (lines_in s) (lines_in t) → HasAllOf m (lines_in t) (lines_in s) → s ≡ t
same_sets m s t is is' up down =
    ap₂ (λ (rows columns : List ℕ). let set : LineSet = record { rows = rows; columns = columns } in set)
    (same_numbers s.rows t.rows is.rows.increasing is'.rows.increasing (rows_within m s t is up) (rows_within m t s is' down))
    (same_numbers s.columns t.columns is.columns.increasing is'.columns.increasing (columns_within m s t is up) (columns_within m t s is' down))
