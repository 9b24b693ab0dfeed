-- Three rows that are independent in some columns.
use Rattle.std.specs.Prelude.{◌≡◌, ◌<◌, ◌&&◌, not, ℕ, Bool, true}
use Rattle.cmr_base.specs.Matrix.{Matrix, height}
use Rattle.cmr_base.specs.Trees.{support}

-- a row that is not 0 in column j and in some column of a set
pub record IsNewRow (m : Matrix) (j : ℕ) (set : ℕ → Bool) (row : ℕ) : Type 0 where
  pub row_in : row < height m
  pub nonzero : support m row j ≡ true
  pub column : ℕ
  pub among : set column ≡ true
  pub here : support m row column ≡ true

-- the columns of a set in which a row is 0
abbrev pub outside_one : Matrix → (ℕ → Bool) → ℕ → ℕ → Bool
outside_one m set one column = set column && not (support m one column)

-- the columns of a set in which two rows are 0
abbrev pub outside_two : Matrix → (ℕ → Bool) → ℕ → ℕ → ℕ → Bool
outside_two m set one two column = outside_one m set one column && not (support m two column)

-- three rows that are not 0 in column j; each is not 0 in a column of a set in which the rows before it are 0
pub record AreIndependent (m : Matrix) (set : ℕ → Bool) (j : ℕ) : Type 0 where
  pub one : ℕ
  pub two : ℕ
  pub three : ℕ
  pub first : IsNewRow m j set one
  pub second : IsNewRow m j (outside_one m set one) two
  pub third : IsNewRow m j (outside_two m set one two) three
