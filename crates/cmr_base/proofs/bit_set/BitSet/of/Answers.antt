use Rattle.std.proofs.Common.{◌∙◌, refl}
use Rattle.cmr_base.proofs.ListedWords.{all_listed, none_listed, one_listed}
use Rattle.cmr_base.proofs.bit_set.BitSet.of.Goals as goal

pub loop-number-init : goal.loop-number-init
loop-number-init c = (c.in_ok-set.ensures.size, none_listed c.args.numbers.now c.in_ok-set.set.words c.in_ok-set.ensures.none)

pub insert-requires : goal.insert-requires
insert-requires c = rw c.loop-number.invariant.0 (c.requires.numbers c.loop-number.number-index c.loop-number-test.true)

pub loop-number-preserved : goal.loop-number-preserved
loop-number-preserved c =
    let so = c.loop-number.invariant in
    let added = c.insert.ensures in
    (added.size ∙ so.0, one_listed c.args.numbers.now c.loop-number.set.words c.insert.new.self.words c.loop-number.number-index _ so.1 c.loop-number-test.true refl added.only added.here added.kept)

pub returns-clause-numbers : goal.returns-clause-numbers
returns-clause-numbers c = all_listed c.args.numbers.now c.loop-number.set.words c.loop-number.number-index c.loop-number.invariant.1 c.loop-number-test.false
