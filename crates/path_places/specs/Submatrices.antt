-- Entries in some rows and some columns of a matrix.
use Rattle.std.specs.Prelude.{◌≡◌, ◌<◌, ℕ, pos, true, [], ◌∷◌}
use Rattle.cmr_base.specs.BitSets.{Bits}
use Rattle.cmr_base.specs.ColumnSets.{has_column}
use Rattle.cmr_base.specs.Matrix.{Matrix, height, entry}
use Rattle.cmr_base.specs.Seeds.{IsBefore}
use Rattle.cmr_base.specs.Trees.{support}

-- a matrix with some of its rows and some of its columns
pub record SubmatrixView : Type 0 where
  pub matrix : Matrix
  pub rows : Bits
  pub columns : Bits

-- a nonzero of the submatrix
pub record IsNonzeroAmong (s : SubmatrixView) (r c : ℕ) : Type 0 where
  pub inside : r < height s.matrix
  pub row : has_column s.rows.words r ≡ true
  pub column : has_column s.columns.words c ≡ true
  pub nonzero : support s.matrix r c ≡ true

-- a zero of the submatrix
pub record IsZeroAmong (s : SubmatrixView) (r c : ℕ) : Type 0 where
  pub row_in : r < height s.matrix
  pub column_in : c < s.matrix.width
  pub row : has_column s.rows.words r ≡ true
  pub column : has_column s.columns.words c ≡ true
  pub zero : entry s.matrix r c ≡ pos 0

-- a row, or a column, of the submatrix with a nonzero there
abbrev pub IsMeetingRow : SubmatrixView → ℕ → Type 0
IsMeetingRow s r = (c : ℕ) × IsNonzeroAmong s r c

abbrev pub IsMeetingColumn : SubmatrixView → ℕ → Type 0
IsMeetingColumn s c = (r : ℕ) × IsNonzeroAmong s r c

-- the first nonzero, by rows and then by columns
pub record IsFirstNonzero (s : SubmatrixView) (row column : ℕ) : Type 0 where
  pub here : IsNonzeroAmong s row column
  pub first : (i j : ℕ) → IsNonzeroAmong s i j → ¬ (IsBefore (i ∷ j ∷ []) (row ∷ column ∷ []))

-- the first nonzero of a row
pub record IsFirstInRow (s : SubmatrixView) (row column : ℕ) : Type 0 where
  pub here : IsNonzeroAmong s row column
  pub first : (j : ℕ) → j < column → ¬ (IsNonzeroAmong s row j)
