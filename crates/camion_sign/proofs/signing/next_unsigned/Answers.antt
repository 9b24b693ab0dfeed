use Rattle.std.proofs.Common.{arith}
use Rattle.camion_sign.proofs.UnsignedOnes.{next_is}
use Rattle.camion_sign.proofs.signing.next_unsigned.Goals as goal

pub returns : goal.returns
returns c =
    next_is c.args.matrix.now c.args.signs.now c.args.row c.row_words.result.now c.columns_of.result.now c.row_words.ensures.columns c.columns_of.ensures.columns c.args.from c.first_outside.result c.first_outside.ensures

pub first_outside-requires-clause-lines : goal.first_outside-requires-clause-lines
first_outside-requires-clause-lines c = omega (arith, c.row_words.ensures.whole.long, c.requires.shape.width_in)

pub first_outside-requires-clause-from : goal.first_outside-requires-clause-from
first_outside-requires-clause-from c = omega (arith, c.requires.from, c.requires.shape.width_in)
