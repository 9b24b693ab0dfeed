use Rattle.std.proofs.Common.{[], ◌∷◌}
use Rattle.three_sep.specs.Searches.{HasNoneBelow}
use Rattle.three_sep.specs.RowSearches.{IsRowSearchOf}
use Rattle.three_sep.proofs.concentrated.first_of_row.Given as goal

abbrev pub invariant-loop-p : goal.invariant-loop-p
invariant-loop-p l = HasNoneBelow l.matrix (3 ∷ l.i ∷ []) l.p × IsRowSearchOf l.matrix l.i l.search
