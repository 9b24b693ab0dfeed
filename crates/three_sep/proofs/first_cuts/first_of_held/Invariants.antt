use Rattle.std.proofs.Common.{[], ◌∷◌, ◌++◌}
use Rattle.three_sep.specs.CutSeeds.{HasNoCutSeedBelow, HoldsThird, cut_prefix}
use Rattle.three_sep.proofs.first_cuts.first_of_held.Given as goal

abbrev pub invariant-loop-fourth : goal.invariant-loop-fourth
invariant-loop-fourth l = HoldsThird l.fn.search.matrix.now l.fn.corners l.third l.search × HasNoCutSeedBelow l.fn.search.matrix.now (cut_prefix l.fn.corners ++ l.third ∷ []) l.fourth
