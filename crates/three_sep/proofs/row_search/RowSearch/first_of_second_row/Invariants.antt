use Rattle.std.proofs.Common.{◌≤◌, ◌-◌, [], ◌∷◌}
use Rattle.three_sep.specs.Searches.{HasNoneBelow}
use Rattle.three_sep.specs.RowSearches.{IsRowSearchOf}
use Rattle.three_sep.proofs.row_search.RowSearch.first_of_second_row.Given as goal

abbrev pub invariant-loop-j : goal.invariant-loop-j
invariant-loop-j l = HasNoneBelow l.fn.self.matrix.now (3 ∷ l.fn.self.row ∷ l.p ∷ l.k ∷ []) l.from × IsRowSearchOf l.fn.self.matrix.now l.fn.self.row l.self × (l.from ≤ l.fn.self.matrix.now.width)

abbrev pub decreases-loop-j : goal.decreases-loop-j
decreases-loop-j l = l.fn.self.matrix.now.width - l.from
