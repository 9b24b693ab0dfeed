use Rattle.std.proofs.Common.{[], ◌∷◌}
use Rattle.three_sep.specs.Searches.{HasNoneBelow}
use Rattle.three_sep.proofs.concentrated.first_concentrated.Given as goal

abbrev pub invariant-loop-i : goal.invariant-loop-i
invariant-loop-i l = HasNoneBelow l.matrix (3 ∷ []) l.i
