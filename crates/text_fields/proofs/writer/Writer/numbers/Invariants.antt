use Rattle.std.proofs.Common.{◌≡◌, map, take}
use Rattle.std.specs.Prelude.{fold}
use Rattle.std.specs.Fmt.{decimal}
use Rattle.text_fields.specs.Written.{with_word}
use Rattle.text_fields.proofs.writer.Writer.numbers.Given as goal

abbrev pub invariant-loop-number : goal.invariant-loop-number
invariant-loop-number l = l.self ≡ fold with_word l.fn.self (map decimal (take l.number-index l.numbers))
