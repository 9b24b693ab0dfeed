use Rattle.std.proofs.lemmas.Result.{IfOk-weaker}
use Rattle.cmr_reach.specs.Balanced.{searched}
use Rattle.cmr_reach.proofs.tools.balanced.search.Goals as goal

pub returns : goal.returns
returns g c = IfOk-weaker c.search_outcome.result _ _ (λ outcome is. searched c.requires.needed c.in_ok-found.found c.in_ok-found.ensures is) c.search_outcome.ensures
