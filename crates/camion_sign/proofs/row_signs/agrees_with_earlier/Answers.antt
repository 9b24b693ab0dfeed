use Rattle.std.proofs.Common.{arith, refl}
use Rattle.camion_sign.proofs.NearFaults.{row_agrees}
use Rattle.camion_sign.proofs.row_signs.agrees_with_earlier.Goals as goal

pub loop-other-preserved : goal.loop-other-preserved
loop-other-preserved c = row_agrees c.args.matrix.now c.args.row c.loop-other.other c.loop-other.invariant (c.if-not-agree.ensures refl)

pub returns : goal.returns
returns c = λ e r l. c.loop-other.invariant r (omega (arith, l, c.loop-other-test.false))
