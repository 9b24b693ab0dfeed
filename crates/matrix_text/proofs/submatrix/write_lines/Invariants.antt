use Rattle.std.proofs.Common.{◌≡◌, map, take}
use Rattle.std.specs.Prelude.{fold}
use Rattle.text_fields.specs.Written.{with_word}
use Rattle.matrix_text.proofs.submatrix.write_lines.Given as goal
use Rattle.text_fields.specs.LineNumbers.{number_of_line}

abbrev pub invariant-loop-line : goal.invariant-loop-line
invariant-loop-line l = l.text ≡ fold with_word l.fn.text (map number_of_line (take l.line-index l.lines))
