use Rattle.cmr_reach.proofs.WayBack as way
use Rattle.cmr_reach.proofs.laws.parts_compose_back.Goals as goal

pub returns : goal.returns
returns c = way.parts_compose_back
