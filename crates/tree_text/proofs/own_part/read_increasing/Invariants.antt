use Rattle.std.proofs.Common.{◌≡◌, ◌-◌, ◌<◌, ℕ, length, get_or, option_copied}
use Rattle.text_fields.specs.Reading.{times}
use Rattle.tree_text.specs.TreeValues.{last_number}
use Rattle.tree_text.specs.TreeReading.{another_line, increasing_lines}
use Rattle.tree_text.proofs.own_part.read_increasing.Given as goal

abbrev pub invariant-loop : goal.invariant-loop
invariant-loop l = record {
  read : times (another_line l.most (option_copied l.whole)) (l.count - l.counter) l.lines l.words ≡ increasing_lines l.most (option_copied l.whole) l.count l.fn.words;
  last : l.before ≡ last_number l.lines;
  len : length l.lines ≡ l.counter;
  below : (k : ℕ) → k < length l.lines → get_or l.lines k 0 < l.before;
}
