use Rattle.fit_cuts.proofs.UnfitPaths.{unfit_sides_have_paths}
use Rattle.fit_cuts.proofs.laws.unfit_sides_have_paths.Goals as goal

pub returns : goal.returns
returns c = unfit_sides_have_paths
