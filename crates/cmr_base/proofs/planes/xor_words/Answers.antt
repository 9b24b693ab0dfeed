use Rattle.std.proofs.Common.{arith}
use Rattle.cmr_base.proofs.XorWords.{xor_whole}
use Rattle.cmr_base.proofs.planes.xor_words.Goals as goal

pub returns : goal.returns
returns c = xor_whole c.args.into.now c.args.from.now c.loop-place.into c.loop-place.place c.loop-place.invariant c.requires (omega (arith, c.loop-place-test.false))
