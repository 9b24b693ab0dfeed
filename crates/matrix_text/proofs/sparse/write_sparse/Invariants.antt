use Rattle.std.proofs.Common.{◌≡◌, ◌+◌, map, drop, false}
use Rattle.std.specs.Prelude.{fold}
use Rattle.text_fields.specs.Written.{with_line}
use Rattle.matrix_text.specs.CanonicalMatrices.{triple_line, triples_from}
use Rattle.matrix_text.proofs.sparse.write_sparse.Given as goal

abbrev pub invariant-loop-row : goal.invariant-loop-row
invariant-loop-row l = record {
  written : fold with_line l.text (map triple_line (triples_from (l.row + 1) (drop l.row l.matrix.rows))) ≡ fold with_line l.initial.text (map triple_line (triples_from 1 l.matrix.rows));
  at_start : l.text.is_begun ≡ false;
}
