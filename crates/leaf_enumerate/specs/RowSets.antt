-- The predicate on the numbers of row sets that a search tests.
use Rattle.std.specs.Prelude.{ℕ, List}
use Rattle.cmr_base.specs.Matrix.{Matrix, height, entry}
use Rattle.cmr_base.specs.LineSets.{IsColumnSet, set_numbered}
use Rattle.cmr_base.specs.Violator.{IsViolator}

-- the row set with the number makes a violator with some column set
pub record HasColumnSet (m : Matrix) (number : ℕ) : Type 0 where
  pub columns : List ℕ
  pub column_set : IsColumnSet m columns
  pub violator : IsViolator (entry m) (set_numbered (height m) 0 number) columns
