use Rattle.sparse_core.proofs.Removals.{removals_decide}
use Rattle.sparse_core.proofs.laws.removal_free.Goals as goal

pub returns : goal.returns
returns c = removals_decide
