use Rattle.fit_cuts.proofs.BoundedPivots.{paths_bound_pivots}
use Rattle.fit_cuts.proofs.ShorterPaths.{pivots_shorten_paths}
use Rattle.fit_cuts.proofs.laws.pivots_shorten_paths.Goals as goal

pub returns-clause-shorter : goal.returns-clause-shorter
returns-clause-shorter c = pivots_shorten_paths

pub returns-clause-within : goal.returns-clause-within
returns-clause-within c = paths_bound_pivots
