use Rattle.network_orient.proofs.SignedSupports.{signed_cographic}
use Rattle.network_orient.proofs.laws.cographic_with_signs.Goals as goal

pub returns : goal.returns
returns c = signed_cographic
