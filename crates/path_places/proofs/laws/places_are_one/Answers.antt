use Rattle.path_places.proofs.UniquePlaces.{cut_place_is_one, path_place_is_one}
use Rattle.path_places.proofs.laws.places_are_one.Goals as goal

pub returns-clause-path : goal.returns-clause-path
returns-clause-path c = path_place_is_one

pub returns-clause-cut : goal.returns-clause-cut
returns-clause-cut c = cut_place_is_one
