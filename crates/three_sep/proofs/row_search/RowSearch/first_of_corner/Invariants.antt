use Rattle.std.proofs.Common.{[], ◌∷◌}
use Rattle.three_sep.specs.Searches.{HasNoneBelow}
use Rattle.three_sep.specs.RowSearches.{IsRowSearchOf}
use Rattle.three_sep.proofs.row_search.RowSearch.first_of_corner.Given as goal

abbrev pub invariant-loop-k : goal.invariant-loop-k
invariant-loop-k l = HasNoneBelow l.fn.self.matrix.now (3 ∷ l.fn.self.row ∷ l.p ∷ []) l.k × IsRowSearchOf l.fn.self.matrix.now l.fn.self.row l.self
