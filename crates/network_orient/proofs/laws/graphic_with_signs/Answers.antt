use Rattle.network_orient.proofs.SignedSupports.{signed_graphic}
use Rattle.network_orient.proofs.laws.graphic_with_signs.Goals as goal

pub returns : goal.returns
returns c = signed_graphic
