use Rattle.std.proofs.Common.{◌≡◌, ◌≤◌, length, ap, subst, arith}
use Rattle.std.specs.Prelude.{OnOk}
use Rattle.text_fields.specs.Written.{Draft}
use Rattle.text_fields.proofs.Lines.{line_ended}
use Rattle.matrix_text.proofs.submatrix.write_lines.Goals as goal
use Rattle.text_fields.specs.LineNumbers.{number_of_line}

pub returns : goal.returns
returns c =
    let lines = c.args.lines.now in
    let past : length lines ≤ c.loop-line.line-index = omega (arith, ap length c.as_slice-line-items.ensures.items) in
    let ended = line_ended c.loop-line.text c.args.text.now number_of_line lines c.loop-line.line-index c.loop-line.invariant past c.requires.at_start in
    subst (λ (d : Draft). OnOk c.end_line.result (c.end_line.new.self ≡ d)) ended c.end_line.ensures
