use Rattle.std.proofs.Common.{◌≡◌, [], ◌∷◌}
use Rattle.three_sep.specs.CutSeeds.{HasNoCutSeedBelow}
use Rattle.three_sep.proofs.first_cuts.first_of_second_row.Given as goal

abbrev pub invariant-loop-j : goal.invariant-loop-j
invariant-loop-j l = (l.search.matrix.now ≡ l.fn.search.matrix.now) × HasNoCutSeedBelow l.fn.search.matrix.now (l.i ∷ l.p ∷ l.k ∷ []) l.j
