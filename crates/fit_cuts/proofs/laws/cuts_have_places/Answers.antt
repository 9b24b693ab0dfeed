use Rattle.fit_cuts.proofs.FirstPlaces.{cuts_have_places}
use Rattle.fit_cuts.proofs.laws.cuts_have_places.Goals as goal

pub returns : goal.returns
returns c = cuts_have_places
