-- Violators that contain no smaller violator.
use Rattle.std.specs.Prelude.{◌≡◌, ℕ, List, Contains}
use Rattle.std.specs.List.{AllByRecursion}
use Rattle.cmr_base.specs.Matrix.{Matrix, entry}
use Rattle.cmr_base.specs.LineSets.{IsRowSet, IsColumnSet}
use Rattle.cmr_base.specs.Violator.{IsViolator}

-- a violator on some of these rows and columns
pub record IsViolatorOn (m : Matrix) (rows columns part_rows part_columns : List ℕ) : Type 0 where
  pub row_set : IsRowSet m part_rows
  pub column_set : IsColumnSet m part_columns
  pub rows_among : AllByRecursion (Contains rows) part_rows
  pub columns_among : AllByRecursion (Contains columns) part_columns
  pub violator : IsViolator (entry m) part_rows part_columns

-- a violator that contains no other violator
pub record IsMinimalViolator (m : Matrix) (rows columns : List ℕ) : Type 0 where
  pub row_set : IsRowSet m rows
  pub column_set : IsColumnSet m columns
  pub violator : IsViolator (entry m) rows columns
  pub minimal : (part_rows part_columns : List ℕ) → IsViolatorOn m rows columns part_rows part_columns → (part_rows ≡ rows) × (part_columns ≡ columns)
