use Rattle.std.proofs.Common.{◌≡◌, ◌-◌, []}
use Rattle.text_fields.specs.Reading.{times}
use Rattle.tree_text.specs.TreeReading.{another_pair}
use Rattle.tree_text.proofs.own_part.read_pairs.Given as goal

abbrev pub invariant-loop : goal.invariant-loop
invariant-loop l = times (another_pair l.last) (l.count - l.counter) l.pairs l.words ≡ times (another_pair l.last) l.count [] l.fn.words
