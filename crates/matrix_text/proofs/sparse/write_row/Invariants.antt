use Rattle.std.proofs.Common.{◌≡◌, ◌+◌, map, drop, false}
use Rattle.std.specs.Prelude.{fold}
use Rattle.cmr_base.specs.Matrix.{row_of}
use Rattle.text_fields.specs.Written.{with_line}
use Rattle.matrix_text.specs.CanonicalMatrices.{triple_line, row_triples}
use Rattle.matrix_text.proofs.sparse.write_row.Given as goal

abbrev pub invariant-loop-column : goal.invariant-loop-column
invariant-loop-column l =
    let row = row_of l.matrix l.row in
    record {
      written : fold with_line l.text (map triple_line (row_triples (l.row + 1) (l.column + 1) (drop l.column row))) ≡ fold with_line l.fn.text (map triple_line (row_triples (l.row + 1) 1 row));
      at_start : l.text.is_begun ≡ false;
    }
