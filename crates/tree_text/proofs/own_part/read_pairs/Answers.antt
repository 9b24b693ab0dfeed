use Rattle.std.proofs.Common.{[], refl}
use Rattle.text_fields.specs.Reading.{times}
use Rattle.text_fields.proofs.Times.{goes_on}
use Rattle.tree_text.specs.TreeReading.{another_pair}
use Rattle.tree_text.proofs.own_part.read_pairs.Goals as goal

pub loop-preserved : goal.loop-preserved
loop-preserved c =
    let step = another_pair c.args.last in
    let total = times step c.args.count [] c.args.words.now in
    goes_on step c.args.count c.loop.counter c.loop.pairs c.loop.words total c.loop-test.true c.push.new.self c.limited-in-loop.new.words (rw (c.in_ok-tail.ensures.read, c.in_ok-head.ensures.read, c.in_ok-push.ensures.ok) refl) c.loop.invariant
