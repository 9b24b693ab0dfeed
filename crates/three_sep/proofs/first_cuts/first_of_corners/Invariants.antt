use Rattle.std.proofs.Common.{◌≡◌}
use Rattle.three_sep.specs.CutSeeds.{HasNoCutSeedBelow, cut_prefix}
use Rattle.three_sep.proofs.first_cuts.first_of_corners.Given as goal

abbrev pub invariant-loop-third : goal.invariant-loop-third
invariant-loop-third l = (l.search.matrix.now ≡ l.fn.search.matrix.now) × HasNoCutSeedBelow l.fn.search.matrix.now (cut_prefix l.corners) l.third
