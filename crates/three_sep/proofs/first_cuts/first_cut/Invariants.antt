use Rattle.std.proofs.Common.{◌≡◌, []}
use Rattle.three_sep.specs.CutSeeds.{HasNoCutSeedBelow}
use Rattle.three_sep.proofs.first_cuts.first_cut.Given as goal

abbrev pub invariant-loop-i : goal.invariant-loop-i
invariant-loop-i l = (l.search.matrix.now ≡ l.fn.matrix) × HasNoCutSeedBelow l.fn.matrix [] l.i
