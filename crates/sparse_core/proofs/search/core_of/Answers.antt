use Rattle.sparse_core.proofs.Tests.{core_found}
use Rattle.sparse_core.proofs.search.core_of.Goals as goal

pub returns-clause-core : goal.returns-clause-core
returns-clause-core c = core_found c.args.rows.now c.search.new.core c.rows-height.ensures.shape c.in_ok-search.ensures.0 c.in_ok-search.ensures.1
