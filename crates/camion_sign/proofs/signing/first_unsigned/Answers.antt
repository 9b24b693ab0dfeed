use Rattle.camion_sign.proofs.UnsignedOnes.{next_is_first}
use Rattle.camion_sign.proofs.signing.first_unsigned.Goals as goal

pub returns : goal.returns
returns c = next_is_first c.args.matrix.now c.args.signs.now c.args.row c.args.from c.next_unsigned.result c.requires.before c.next_unsigned.ensures
