use Rattle.std.proofs.Common.{◌≡◌, [], ◌∷◌}
use Rattle.three_sep.specs.CutSeeds.{HasNoCutSeedBelow}
use Rattle.three_sep.proofs.first_cuts.first_of_corner.Given as goal

abbrev pub invariant-loop-k : goal.invariant-loop-k
invariant-loop-k l = (l.search.matrix.now ≡ l.fn.search.matrix.now) × HasNoCutSeedBelow l.fn.search.matrix.now (l.i ∷ l.p ∷ []) l.k
