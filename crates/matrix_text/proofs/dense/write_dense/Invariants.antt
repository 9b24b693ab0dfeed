use Rattle.std.proofs.Common.{◌≡◌, map, take, false}
use Rattle.std.specs.Prelude.{fold}
use Rattle.std.specs.Fmt.{signed_decimal}
use Rattle.text_fields.specs.Written.{with_line}
use Rattle.matrix_text.proofs.dense.write_dense.Given as goal

abbrev pub invariant-loop-row : goal.invariant-loop-row
invariant-loop-row l = record {
  written : l.text ≡ fold with_line l.initial.text (map (map signed_decimal) (take l.row l.matrix.rows));
  at_start : l.text.is_begun ≡ false;
}
