-- Laws of series-parallel matrices.
use Rattle.std.specs.Prelude.{◌≡◌, ◌↔◌, Bool, ℕ, List, []}
use Rattle.cmr_base.specs.Matrix.{Matrix}
use Rattle.cmr_base.specs.LineSets.{IsRowSet, IsColumnSet, submatrix}
use Rattle.cmr_base.specs.Reductions.{IsSeriesParallel, removal}
use Rattle.cmr_base.specs.GreedySets.{IsGreedySet, IsMinimalWithout}

-- each submatrix of a series-parallel matrix is series-parallel
abbrev pub SubmatricesAreSeriesParallel : Type 0
SubmatricesAreSeriesParallel = (binary : Bool) (m : Matrix) (rows columns : List ℕ) → IsRowSet m rows → IsColumnSet m columns → IsSeriesParallel binary m
    → IsSeriesParallel binary (submatrix m rows columns)

-- series-parallel if and only if the stated order leaves no row and no column
abbrev pub RestDecides : Type 0
RestDecides = (binary : Bool) (m : Matrix) → IsSeriesParallel binary m ↔ (((removal binary m).rows ≡ []) × ((removal binary m).columns ≡ []))

-- the greedy set of a matrix that is not series-parallel is minimal
abbrev pub GreedySetIsMinimal : Type 0
GreedySetIsMinimal = (binary : Bool) (m : Matrix) (rows columns : List ℕ) → ¬ IsSeriesParallel binary m → IsGreedySet (IsSeriesParallel binary) m rows columns
    → IsMinimalWithout (IsSeriesParallel binary) m rows columns
