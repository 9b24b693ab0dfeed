-- The results for some rows of a matrix, while the pivots are undone.
use Rattle.std.specs.Prelude.{◌≡◌, ◌<◌, ◌+◌, ◌*ℤ◌, ◌+ℤ◌, ℕ, ℤ, pos, Bool, true, false, if◌then◌else◌, List, [], ◌∷◌, length, slice_index_or, slice_set}
use Rattle.std.specs.List.{AllByRecursion, Contains}
use Rattle.cmr_base.specs.Matrix.{Matrix, height, entry}
use Rattle.cmr_base.specs.Signing.{IsSign}
use Rattle.cmr_base.specs.Sums.{sum_over, IsEven, IsOdd}
use Rattle.cmr_base.specs.Violator.{IsViolator}
use Rattle.ghouila.specs.Pivot.{IsTernaryRow}
use Rattle.cmr_base.specs.Cuts.{bit}

-- true if and only if the number is odd
abbrev pub HasParity : Bool → ℤ → Type 0
HasParity true z = IsOdd z
HasParity false z = IsEven z

-- the positions of the marks in a list, counted from a first number
abbrev pub marked_from : ℕ → List Bool → List ℕ
marked_from first [] = []
marked_from first (mark ∷ marks) = if mark then first ∷ marked_from (first + 1) marks else marked_from (first + 1) marks

abbrev pub marked : List Bool → List ℕ
marked marks = marked_from 0 marks

-- a signing of the rows, with the sums of the signed rows
pub record SignsRows (m : Matrix) (rows : List ℕ) (signs sums : List ℤ) : Type 0 where
  pub one_each : length signs ≡ height m
  pub sum_each : length sums ≡ m.width
  pub each : AllByRecursion (λ row. IsSign (slice_index_or signs row (pos 0))) rows
  pub sums_are : (column : ℕ) → column < m.width → slice_index_or sums column (pos 0) ≡ sum_over rows (λ row. slice_index_or signs row (pos 0) *ℤ entry m row column)
  pub entries : IsTernaryRow m.width (λ column. slice_index_or sums column (pos 0))

-- a violator on marked lines whose rows are among these, with the parity of the sum of its rows in each column
pub record MarksViolator (m : Matrix) (rows : List ℕ) (row_marks column_marks odd : List Bool) : Type 0 where
  pub row_each : length row_marks ≡ height m
  pub column_each : length column_marks ≡ m.width
  pub odd_each : length odd ≡ m.width
  pub among : (row : ℕ) → slice_index_or row_marks row false ≡ true → Contains rows row
  pub violator : IsViolator (entry m) (marked row_marks) (marked column_marks)
  pub parity : (column : ℕ) → column < m.width → HasParity (slice_index_or odd column false) (sum_over (marked row_marks) (λ row. entry m row column))

-- the new mark of a column: set if and only if the row's entries in the other marked columns, plus 1 if the column was marked, have an odd
-- sum
pub record MarksAgain (row : ℕ → ℤ) (column : ℕ) (old new : List Bool) : Type 0 where
  pub mark : Bool
  pub new_is : new ≡ slice_set old column mark
  pub parity : HasParity mark (sum_over (marked (slice_set old column false)) row +ℤ bit (slice_index_or old column false))
