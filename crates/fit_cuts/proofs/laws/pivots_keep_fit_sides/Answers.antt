use Rattle.fit_cuts.proofs.PivotedSides.{pivots_keep_fit_sides}
use Rattle.fit_cuts.proofs.laws.pivots_keep_fit_sides.Goals as goal

pub returns : goal.returns
returns c = pivots_keep_fit_sides
