use Rattle.std.proofs.Common.{◌≡◌, map, take}
use Rattle.std.specs.Prelude.{fold}
use Rattle.std.specs.Fmt.{signed_decimal}
use Rattle.cmr_base.specs.Matrix.{row_of}
use Rattle.text_fields.specs.Written.{with_word}
use Rattle.matrix_text.proofs.dense.write_row.Given as goal

abbrev pub invariant-loop-column : goal.invariant-loop-column
invariant-loop-column l = l.text ≡ fold with_word l.fn.text (map signed_decimal (take l.column (row_of l.matrix l.row)))
