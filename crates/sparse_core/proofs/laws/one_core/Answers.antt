use Rattle.sparse_core.proofs.Removals.{one_core}
use Rattle.sparse_core.proofs.laws.one_core.Goals as goal

pub returns : goal.returns
returns c = one_core
