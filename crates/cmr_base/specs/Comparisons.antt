-- The features of a matrix that are compared with the paths of a tree.
use Rattle.std.specs.Prelude.{◌≡◌, ℕ, ℤ, List}
use Rattle.cmr_base.specs.declared.network.Network.{Network}
use Rattle.cmr_base.specs.declared.network.Pair.{Pair}
use Rattle.cmr_base.specs.declared.reproduce.Comparison.{Comparison}
use Rattle.cmr_base.specs.declared.reproduce.Comparison.TheVariants.{Support, Signs}
use Rattle.cmr_base.specs.Matrix.{Matrix, height, entry, is_nonzero}
use Rattle.cmr_base.specs.Trees.{tail, head, IsPathOf, IsDirectedPathOf, support, Reproduces, ReproducesSupport}

-- an entry agrees with the direction in which a path uses the arc of its row
abbrev pub Agrees : Comparison → ℤ → ℤ → Type 0
Agrees Support entry direction = is_nonzero entry ≡ is_nonzero direction
Agrees Signs entry direction = entry ≡ direction

abbrev pub IsReproduced : Comparison → Network → Matrix → Type 0
IsReproduced Support net m = ReproducesSupport net m
IsReproduced Signs net m = Reproduces net m

-- the path of a column's walk uses the arcs as the column says
abbrev pub IsColumnPath : Comparison → List Pair → List Pair → Matrix → ℕ → Type 0
IsColumnPath Support arcs walks m column = IsPathOf arcs (height m) (λ row. support m row column) (tail walks column) (head walks column)
IsColumnPath Signs arcs walks m column = IsDirectedPathOf arcs (height m) (λ row. entry m row column) (tail walks column) (head walks column)
