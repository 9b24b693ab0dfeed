use Rattle.std.proofs.Common.{◌≡◌, [], ◌∷◌}
use Rattle.cmr_base.specs.Seeds.{form_number}
use Rattle.three_sep.specs.Searches.{HasNoneBelow}
use Rattle.three_sep.proofs.search.Search.first_of_second_row.Given as goal

abbrev pub invariant-loop-j : goal.invariant-loop-j
invariant-loop-j l = (l.self.matrix.now ≡ l.fn.self.matrix.now) × HasNoneBelow l.fn.self.matrix.now (form_number l.form ∷ l.i ∷ l.p ∷ l.k ∷ []) l.j
