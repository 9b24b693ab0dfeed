use Rattle.camion_sign.proofs.PlaceLinks.{touched_more}
use Rattle.camion_sign.proofs.row_places.RowPlaces.end.Goals as goal

pub returns : goal.returns
returns c = record {
  parts = c.join_row.ensures;
  touched = touched_more c.args.matrix.now c.args.row c.args.self.now.touched c.add_words.new.self c.row_words.result.now c.requires.room.touched c.row_words.ensures.columns c.add_words.ensures.size c.add_words.ensures.columns;
  waiting = c.requires.room.waiting;
  fits = c.requires.room.fits;
  square = c.requires.room.square;
  one_each = c.requires.room.one_each;
}
