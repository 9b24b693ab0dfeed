use Rattle.block_ranks.proofs.PlaceSteps.{no_cut, some_cut}
use Rattle.block_ranks.proofs.places.has_cut.Goals as goal

pub returns-clause-yes : goal.returns-clause-yes
returns-clause-yes c = some_cut c.args.matrix.now c.of.result c.in_ok-found.found c.is_some.result c.of.ensures c.in_ok-found.ensures c.is_some.ensures

pub returns-clause-no : goal.returns-clause-no
returns-clause-no c = no_cut c.args.matrix.now c.of.result c.in_ok-found.found c.is_some.result c.of.ensures c.in_ok-found.ensures c.is_some.ensures
