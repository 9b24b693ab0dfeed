-- The columns of a row in which another row is 0.
use Rattle.std.proofs.Common.{ℕ, Bool, true, false, not, List, ◌≡◌, ◌&&◌, refl}
use Rattle.cmr_base.specs.BitSets.{Bits}
use Rattle.cmr_base.specs.ColumnSets.{has_column}
use Rattle.cmr_base.specs.Matrix.{Matrix, IsMatrix}
use Rattle.cmr_base.specs.Trees.{support}
use Rattle.cmr_base.proofs.GraphicMatrices.{nonzero_in_range}
use Rattle.bridge_split.specs.ZeroColumns.{AreZeros}

both_outside : (other own zero word : Bool) → word ≡ other → (other ≡ true → zero ≡ not own) → (zero && word) ≡ (other && not own)
both_outside true own zero word e f = rw (f refl, e) (with_true own)
  where
    with_true : (b : Bool) → (not b && true) ≡ (true && not b)
    with_true true = refl
    with_true false = refl
both_outside false own true word e f = rw e refl
both_outside false own false word e f = refl

pub common_zeros : (m : Matrix) (i x : ℕ) (zeros : Bits) (words : List ℕ) → IsMatrix m → AreZeros m i zeros → ((column : ℕ) → has_column words column ≡ support m x column)
    → (column : ℕ) → (has_column zeros.words column && has_column words column) ≡ (support m x column && not (support m i column))
common_zeros m i x zeros words is are row column = both_outside (support m x column) (support m i column) (has_column zeros.words column) (has_column words column) (row column)
    (λ e. are.exact column (nonzero_in_range m is.rectangular x column e))
