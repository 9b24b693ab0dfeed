use Rattle.std.proofs.Common.{◌∙◌, sym, rules, arith}
use Rattle.parity.proofs.WordLemmas.{AreWords, number_of-without_columns}
use Rattle.parity.proofs.sums.write_outside.Goals as goal

pub returns : goal.returns
returns c =
    let bits : AreWords c.args.bits.now = λ k. search rules in
    let excluded : AreWords c.args.excluded.now = λ k. search rules in
    let long = c.loop-place.auto.into in
    number_of-without_columns c.args.bits.now c.args.excluded.now c.loop-place.into bits excluded (c.requires.bits ∙ sym long) (c.requires.excluded ∙ sym long) (λ k h. c.loop-place.invariant k (omega (arith, long)))
