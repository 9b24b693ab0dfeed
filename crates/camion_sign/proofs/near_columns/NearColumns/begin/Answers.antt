use Rattle.std.proofs.Common.{◌∙◌}
use Rattle.camion_sign.proofs.near_columns.NearColumns.begin.Goals as goal

pub returns : goal.returns
returns c = record {
  room = record { matrix = c.requires.room.matrix; waiting = c.add_touched.ensures.size ∙ c.clear.ensures.size ∙ c.requires.room.waiting; near = c.requires.room.near };
  agrees = c.agrees_if_many-agrees.ensures;
  waits = c.add_touched.ensures.waits;
}
