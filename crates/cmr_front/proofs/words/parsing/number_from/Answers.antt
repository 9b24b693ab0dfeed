use Rattle.std.proofs.Common.{arith}
use Rattle.std.proofs.lemmas.Int.{ints}
use Rattle.cmr_front.proofs.Numbers.{number_read, number_from-none}
use Rattle.cmr_front.proofs.words.parsing.number_from.Goals as goal

pub returns-in-Ok : goal.returns-in-Ok
returns-in-Ok c =
    number_read c.args.least c.args.most c.args.text.now c.in-Ok.number c.in-Ok.ensures.value.0.0.0 c.in-Ok.ensures.value.0.0.1 c.in-Ok.ensures.value.0.1
    (omega (arith, ints)) (omega (arith, ints))

pub returns-in_default-3 : goal.returns-in_default-3
returns-in_default-3 c = number_from-none c.args.least c.args.most c.args.text.now (λ h. c.in_default.ensures.value.0 (h.0, h.1))
