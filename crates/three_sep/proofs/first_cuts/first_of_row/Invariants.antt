use Rattle.std.proofs.Common.{◌≡◌, [], ◌∷◌}
use Rattle.three_sep.specs.CutSeeds.{HasNoCutSeedBelow}
use Rattle.three_sep.proofs.first_cuts.first_of_row.Given as goal

abbrev pub invariant-loop-p : goal.invariant-loop-p
invariant-loop-p l = (l.search.matrix.now ≡ l.fn.search.matrix.now) × HasNoCutSeedBelow l.fn.search.matrix.now (l.i ∷ []) l.p
