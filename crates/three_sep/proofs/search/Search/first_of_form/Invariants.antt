use Rattle.std.proofs.Common.{◌≡◌, [], ◌∷◌}
use Rattle.cmr_base.specs.Seeds.{form_number}
use Rattle.three_sep.specs.Searches.{HasNoneBelow}
use Rattle.three_sep.proofs.search.Search.first_of_form.Given as goal

abbrev pub invariant-loop-i : goal.invariant-loop-i
invariant-loop-i l = (l.self.matrix.now ≡ l.fn.self.matrix.now) × HasNoneBelow l.fn.self.matrix.now (form_number l.form ∷ []) l.i
