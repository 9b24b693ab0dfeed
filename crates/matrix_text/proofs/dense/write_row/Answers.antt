use Rattle.std.proofs.Common.{◌≡◌, ◌≤◌, length, subst, arith}
use Rattle.std.specs.Prelude.{OnOk}
use Rattle.std.specs.Fmt.{signed_decimal}
use Rattle.cmr_base.specs.Matrix.{row_of}
use Rattle.text_fields.specs.Written.{Draft}
use Rattle.text_fields.proofs.Lines.{line_ended}
use Rattle.matrix_text.proofs.dense.write_row.Goals as goal

pub returns : goal.returns
returns c =
    let row = row_of c.args.matrix.now c.args.row in
    let past : length row ≤ c.loop-column.column = omega (arith, c.columns-column-end.ensures.shape.rectangular c.args.row c.requires.row) in
    let ended = line_ended c.loop-column.text c.args.text.now signed_decimal row c.loop-column.column c.loop-column.invariant past c.requires.at_start in
    subst (λ (d : Draft). OnOk c.end_line.result (c.end_line.new.self ≡ d)) ended c.end_line.ensures
