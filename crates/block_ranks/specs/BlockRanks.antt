-- Three-separations of a matrix by the ranks of their blocks: the ranks of both blocks sum to two. The connectors need not be lines of the
-- matrix.
use Rattle.std.specs.Prelude.{◌≡◌, ◌≢◌, ◌<◌, ◌+◌, ℕ, suc, pos, ℤ, Bool, true, false, List, length}
use Rattle.std.specs.List.{AllByRecursion}
use Rattle.cmr_base.specs.declared.line.Line.TheVariants.{Row, Column}
use Rattle.cmr_base.specs.LineSets.{first_lines}
use Rattle.cmr_base.specs.Matrix.{Matrix, height, entry}
use Rattle.cmr_base.specs.Determinants.{determinant}
use Rattle.cmr_base.specs.Separations.{AreEnough, Lines}

-- as many rows as columns of a block, which are these many
pub record IsSquareIn (is_row is_column : ℕ → Type 0) (rows columns : List ℕ) (size : ℕ) : Type 0 where
  pub height : length rows ≡ size
  pub width : length columns ≡ size
  pub rows_in : AllByRecursion is_row rows
  pub columns_in : AllByRecursion is_column columns

-- The block of these rows and columns has the rank: some square submatrix of this size has a determinant that is not 0, and each square
-- submatrix that is larger by one has the determinant 0. Lines may be repeated, which gives the determinant 0.
pub record HasRank (M : ℕ → ℕ → ℤ) (is_row is_column : ℕ → Type 0) (rank : ℕ) : Type 0 where
  pub rows : List ℕ
  pub columns : List ℕ
  pub square : IsSquareIn is_row is_column rows columns rank
  pub regular : determinant M rows columns ≢ pos 0
  pub larger : (R C : List ℕ) → IsSquareIn is_row is_column R C (suc rank) → determinant M R C ≡ pos 0

-- the rows and the columns of a matrix that are in side one, or in side two
abbrev pub is_row_of : Matrix → Lines → (side : Bool) → ℕ → Type 0
is_row_of m T side r = (r < height m) × (T (Row r) ≡ side)

abbrev pub is_column_of : Matrix → Lines → (side : Bool) → ℕ → Type 0
is_column_of m T side c = (c < m.width) × (T (Column c) ≡ side)

-- the block with the rows of side one and the columns of side two has this rank
abbrev pub HasUpperRank : Matrix → Lines → ℕ → Type 0
HasUpperRank m T rank = HasRank (entry m) (is_row_of m T true) (is_column_of m T false) rank

-- the block with the rows of side two and the columns of side one has this rank
abbrev pub HasLowerRank : Matrix → Lines → ℕ → Type 0
HasLowerRank m T rank = HasRank (entry m) (is_row_of m T false) (is_column_of m T true) rank

-- side one is T: each side has at least four lines, and the ranks of the blocks sum to two
pub record IsRankSeparation (m : Matrix) (T : Lines) : Type 0 where
  pub enough : AreEnough (first_lines (height m)) (first_lines m.width) T 4
  pub upper_rank : ℕ
  pub lower_rank : ℕ
  pub upper : HasUpperRank m T upper_rank
  pub lower : HasLowerRank m T lower_rank
  pub sum : upper_rank + lower_rank ≡ 2

-- the matrix has no three-separation of any form, in whatever basis
abbrev pub HasNoRankSeparation : Matrix → Type 0
HasNoRankSeparation m = (T : Lines) → ¬ (IsRankSeparation m T)
