use Rattle.cmr_large.proofs.UndecidedParts.{undecided_parts_are_beyond}
use Rattle.cmr_large.proofs.laws.undecided_part.Goals as goal

pub returns : goal.returns
returns c = undecided_parts_are_beyond
