use Rattle.std.proofs.Common.{[], ◌∷◌, ◌++◌, ◌<◌, ◌≤◌, ◌-◌}
use Rattle.cmr_base.specs.declared.separation.Form.TheVariants.{Concentrated}
use Rattle.three_sep.specs.Searches.{HasNoneBelow, corner_prefix}
use Rattle.three_sep.proofs.concentrated.first_other_row.Given as goal

abbrev pub invariant-loop-o : goal.invariant-loop-o
invariant-loop-o l = HasNoneBelow l.matrix (corner_prefix Concentrated l.corners ++ l.q ∷ []) l.from × (l.corners.two.row < l.from) × (l.from ≤ 1000)

abbrev pub decreases-loop-o : goal.decreases-loop-o
decreases-loop-o l = 1000 - l.from
