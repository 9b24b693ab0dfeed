use Rattle.std.proofs.Common.{◌≡◌, map, take}
use Rattle.std.specs.Prelude.{fold}
use Rattle.text_fields.specs.Written.{with_word}
use Rattle.chains.specs.ChainTexts.{number_of_line}
use Rattle.chains.proofs.chain_writer.put_lines.Given as goal

abbrev pub invariant-loop-line : goal.invariant-loop-line
invariant-loop-line l = l.text ≡ fold with_word l.fn.text (map number_of_line (take l.line-index l.lines))
