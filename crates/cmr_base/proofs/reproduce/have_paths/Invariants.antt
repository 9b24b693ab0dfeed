use Rattle.std.proofs.Common.{◌≡◌, ◌<◌, ℕ, pos, replicate}
use Rattle.cmr_base.specs.Matrix.{height}
use Rattle.cmr_base.specs.Comparisons.{IsColumnPath}
use Rattle.cmr_base.proofs.reproduce.have_paths.Given as goal

abbrev pub invariant-loop-column : goal.invariant-loop-column
invariant-loop-column l = (l.directions.items ≡ replicate (height l.matrix) (pos 0)) × ((k : ℕ) → k < l.column → IsColumnPath l.comparison l.arcs l.walks l.matrix k)
