use Rattle.std.proofs.Common.{◌≡◌, ◌-◌, ◌<◌, ℕ, length, get_or}
use Rattle.text_fields.specs.Reading.{times}
use Rattle.chains.specs.ChainTexts.{last_number, another_line, increasing_lines}
use Rattle.chains.proofs.chain_text.increasing_lines.Given as goal

abbrev pub invariant-loop : goal.invariant-loop
invariant-loop l = record {
  read : times (another_line l.most) (l.count - l.counter) l.lines l.words ≡ increasing_lines l.most l.count l.fn.words;
  last : l.before ≡ last_number l.lines;
  below : (k : ℕ) → k < length l.lines → get_or l.lines k 0 < l.before;
}
