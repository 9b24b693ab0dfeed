use Rattle.std.proofs.Common.{◌≡◌, ◌-◌, List, [], false}
use Rattle.text_fields.specs.Reading.{times}
use Rattle.matrix_text.specs.Sparse.{Triple, another_triple}
use Rattle.sparse_text.proofs.SparseTriples.{AreTriplesOf}
use Rattle.sparse_text.proofs.sparse.matrix_by_triples.Given as goal

abbrev pub invariant-loop : goal.invariant-loop
invariant-loop l =
    (triples : List Triple)
    × (times (another_triple false l.rows l.columns) (l.count - l.counter) triples l.words ≡ times (another_triple false l.rows l.columns) l.count [] l.fn.words)
    × AreTriplesOf l.rows l.columns l.others triples l.matrix
