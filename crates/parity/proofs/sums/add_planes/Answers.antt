use Rattle.std.proofs.Common.{rules, arith}
use Rattle.parity.proofs.WordLemmas.{AreWords, number_of-carry, number_of-xor}
use Rattle.parity.proofs.sums.add_planes.Goals as goal

pub returns-clause-ones : goal.returns-clause-ones
returns-clause-ones c =
    let ones : AreWords c.args.ones.now = λ k. search rules in
    let support : AreWords c.args.support.now = λ k. search rules in
    number_of-xor c.args.ones.now c.args.support.now c.loop-place.ones ones support c.requires.support c.loop-place.auto.ones (λ k h. c.loop-place.invariant.ones_added k (omega arith))

pub returns-clause-twos : goal.returns-clause-twos
returns-clause-twos c =
    let ones : AreWords c.args.ones.now = λ k. search rules in
    let twos : AreWords c.args.twos.now = λ k. search rules in
    let support : AreWords c.args.support.now = λ k. search rules in
    let minus : AreWords c.args.minus.now = λ k. search rules in
    number_of-carry c.args.ones.now c.args.twos.now c.args.support.now c.args.minus.now c.loop-place.twos ones twos support minus c.requires.twos c.requires.support c.requires.minus (omega (arith, c.loop-place.auto.twos, c.requires.twos))
    (λ k h. c.loop-place.invariant.twos_added k (omega arith))
