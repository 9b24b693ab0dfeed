use Rattle.std.proofs.Common.{◌≡◌, None, false, length, replicate, refl, rules}
use Rattle.camion_sign.proofs.PlaceLinks.{begin_row}
use Rattle.camion_sign.proofs.row_places.RowPlaces.begin.Goals as goal

pub returns : goal.returns
returns c signs row room before =
    let old = c.args.self.now in
    let known : c.fill.new.self.items ≡ replicate (length old.known.items) false = search rules in
    begin_row c.args.matrix.now signs row old (record { parts = old.parts; touched = old.touched; waiting = old.waiting; walk = old.walk; walked = None; links = old.links; known = c.fill.new.self }) room before refl refl refl refl known refl refl
