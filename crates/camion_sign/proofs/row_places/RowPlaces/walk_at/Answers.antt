use Rattle.std.proofs.Common.{◌∙◌, refl}
use Rattle.camion_sign.proofs.PlaceLinks.{known_more}
use Rattle.camion_sign.proofs.row_places.RowPlaces.walk_at.Goals as goal

pub returns-clause-places : goal.returns-clause-places
returns-clause-places c =
    known_more c.args.matrix.now c.args.signs.now c.args.start.row c.args.start.column c.args.self.now _ c.requires.places c.in_ok-walk_from.ensures c.note_places.ensures.shows c.note_places.ensures.others c.note_places.ensures.square refl refl refl refl (c.add_common_words.ensures.size ∙ c.clear.ensures.size)

pub returns-clause-walked : goal.returns-clause-walked
returns-clause-walked c = (c.args.signs.now, c.in_ok-walk_from.ensures)
