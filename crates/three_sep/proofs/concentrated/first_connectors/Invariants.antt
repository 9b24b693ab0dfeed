use Rattle.std.proofs.Common.{◌≤◌, ◌-◌}
use Rattle.cmr_base.specs.declared.separation.Form.TheVariants.{Concentrated}
use Rattle.three_sep.specs.Searches.{HasNoneBelow, corner_prefix}
use Rattle.three_sep.proofs.concentrated.first_connectors.Given as goal

abbrev pub invariant-loop-q : goal.invariant-loop-q
invariant-loop-q l = HasNoneBelow l.matrix (corner_prefix Concentrated l.corners) l.from × (l.from ≤ 1000)

abbrev pub decreases-loop-q : goal.decreases-loop-q
decreases-loop-q l = 1000 - l.from
