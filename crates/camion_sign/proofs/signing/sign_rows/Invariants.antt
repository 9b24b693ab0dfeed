use Rattle.std.proofs.Common.{◌≡◌}
use Rattle.camion_sign.specs.Signings.{HasRoomForPlaces, IsAtRow}
use Rattle.camion_sign.proofs.signing.sign_rows.Given as goal

abbrev pub invariant-loop-row : goal.invariant-loop-row
invariant-loop-row l = HasRoomForPlaces l.matrix l.row l.places × IsAtRow l.matrix l.row l.signing × (l.signing.steps.are_kept ≡ l.fn.signing.steps.are_kept)
