use Rattle.std.proofs.Common.{◌≡◌, [], ◌∷◌}
use Rattle.cmr_base.specs.Seeds.{form_number}
use Rattle.three_sep.specs.Searches.{HasNoneBelow}
use Rattle.three_sep.proofs.search.Search.first_of_corner.Given as goal

abbrev pub invariant-loop-k : goal.invariant-loop-k
invariant-loop-k l = (l.self.matrix.now ≡ l.fn.self.matrix.now) × HasNoneBelow l.fn.self.matrix.now (form_number l.form ∷ l.i ∷ l.p ∷ []) l.k
