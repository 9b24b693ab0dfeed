-- The lines of a violator before a pivot, as the program makes them.
use Rattle.std.proofs.Common.{◌≡◌, ◌≢◌, ◌<◌, ◌↔◌, inl, inr, ℕ, Bool, List, get_or, pos, sym, subst}
use Rattle.std.specs.Prelude.{IsTrue}
use Rattle.std.proofs.lemmas.Bool.{cases_eq}
use Rattle.std.specs.List.Sorted.{IsStrictlyIncreasing}
use Rattle.cmr_base.specs.LineSets.{AllBelow, IsRowSet, IsColumnSet}
use Rattle.cmr_base.specs.Matrix.{Matrix, height, entry, IsMatrix}
use Rattle.cmr_base.specs.Members.{IsIn}
use Rattle.cmr_base.specs.Sums.{IsOdd, sum_over}
use Rattle.cmr_base.proofs.ListsWithout.{place_of, place_is}
use Rattle.cmr_base.proofs.Members.{in_at}
use Rattle.cmr_base.proofs.SignEntries.{sign_of_entry}
use Rattle.ghouila.specs.PivotLaws.{IsPivotPlace, AreLinesBefore}
use Rattle.pivots.specs.ChosenLines.{with_or_without}
use Rattle.pivots.proofs.ChosenLines.{line_there, others_there}

-- the program's test of a sum decides whether the line is there
there : (lines : List ℕ) (line : ℕ) (has : Bool) (P : Type 0) → IsTrue has ↔ P → IsIn line (with_or_without lines line has) ↔ P
there lines line has P odd = let is = line_there lines line has in (λ h. odd.0 (is.0 h), λ p. is.1 (odd.1 p))

pub lines_before : (m : Matrix) (row column : ℕ) (rows columns : List ℕ) (has_row has_column : Bool)
    → IsTrue has_row ↔ IsOdd (sum_over rows (λ i. entry m i column)) → IsTrue has_column ↔ IsOdd (sum_over columns (entry m row))
    → AreLinesBefore m row column rows columns (with_or_without rows row has_row) (with_or_without columns column has_column)
lines_before m row column rows columns has_row has_column odd odd' = record {
  row_there = there rows row has_row (IsOdd (sum_over rows (λ i. entry m i column))) odd;
  other_rows = λ i apart. others_there rows row has_row i apart;
  column_there = there columns column has_column (IsOdd (sum_over columns (entry m row))) odd';
  other_columns = λ j apart. others_there columns column has_column j apart;
}

-- lines that are among others, or one line, are in range
below : (n : ℕ) (lines : List ℕ) (line : ℕ) (made : List ℕ) → AllBelow n lines → line < n → ((x : ℕ) → x ≢ line → IsIn x made → IsIn x lines) → AllBelow n made
below n lines line made all inside others k h = elim (cases_eq (get_or made k 0) line) [
  | inl e ↦ subst (λ x. x < n) (sym e) inside
  | inr apart ↦
      let x = get_or made k 0 in
      let p = place_is x lines (others x apart (in_at made k h)) in
      subst (λ x. x < n) p.there (all (place_of x lines) p.in_range)
]

pub row_set : (m : Matrix) (row : ℕ) (rows : List ℕ) (has : Bool) (made : List ℕ) → made ≡ with_or_without rows row has → IsStrictlyIncreasing made
    → AllBelow (height m) rows → row < height m → IsRowSet m made
row_set m row rows has made e increasing all inside = record { increasing = increasing; in_range = below (height m) rows row made all inside (λ x apart h. (others_there rows row has x apart).0 (subst (IsIn x) e h)) }

pub column_set : (m : Matrix) (column : ℕ) (columns : List ℕ) (has : Bool) (made : List ℕ) → made ≡ with_or_without columns column has
    → IsStrictlyIncreasing made → AllBelow m.width columns → column < m.width → IsColumnSet m made
column_set m column columns has made e increasing all inside = record { increasing = increasing; in_range = below m.width columns column made all inside (λ x apart h. (others_there columns column has x apart).0 (subst (IsIn x) e h)) }

pub pivot_place : (m : Matrix) (row column : ℕ) → IsMatrix m → row < height m → column < m.width → entry m row column ≢ pos 0 → IsPivotPlace m row column
pivot_place m row column is row_in column_in nonzero = record { row_in = row_in; column_in = column_in; nonzero = sign_of_entry (entry m row column) (is.small row column) nonzero }
