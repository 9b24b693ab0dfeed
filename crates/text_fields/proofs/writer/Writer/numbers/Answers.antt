use Rattle.std.proofs.Common.{◌≡◌, subst}
use Rattle.std.specs.Prelude.{OnOk}
use Rattle.std.specs.Fmt.{decimal}
use Rattle.text_fields.specs.Written.{Draft}
use Rattle.text_fields.proofs.Lines.{line_ended}
use Rattle.text_fields.proofs.writer.Writer.numbers.Goals as goal

pub returns : goal.returns
returns c =
    let ended = line_ended c.loop-number.self c.args.self.now decimal c.args.numbers.now c.loop-number.number-index c.loop-number.invariant c.loop-number-test.false c.requires in
    subst (λ (d : Draft). OnOk c.end_line.result (c.end_line.new.self ≡ d)) ended c.end_line.ensures
