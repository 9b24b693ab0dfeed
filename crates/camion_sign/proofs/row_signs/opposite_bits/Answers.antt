use Rattle.std.proofs.Common.{ap, eqb}
use Rattle.camion_sign.proofs.SignWords.{equal_bits}
use Rattle.camion_sign.proofs.row_signs.opposite_bits.Goals as goal

pub returns : goal.returns
returns c = λ e k small h. equal_bits c.args.common c.args.word c.args.other (ap (λ n. eqb n 0) e) k h
