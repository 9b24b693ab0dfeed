use Rattle.std.proofs.Common.{ap, eqb}
use Rattle.camion_sign.proofs.SignWords.{opposite_bits}
use Rattle.camion_sign.proofs.row_signs.equal_bits.Goals as goal

pub returns : goal.returns
returns c = λ e k small h. opposite_bits c.args.common c.args.word c.args.other c.ranges.word.fits c.ranges.other.fits (ap (λ n. eqb n 0) e) k small h
