use Rattle.std.proofs.Common.{◌≡◌, ◌-◌, ℤ, List, []}
use Rattle.cmr_base.specs.Matrix.{rows_of}
use Rattle.text_fields.specs.Reading.{times}
use Rattle.matrix_text.specs.Sparse.{Triple, another_triple}
use Rattle.matrix_text.proofs.Places.{AreHeld}
use Rattle.matrix_text.proofs.sparse.matrix_by_triples.Given as goal

abbrev pub invariant-loop : goal.invariant-loop
invariant-loop l =
    (triples : List Triple)
    × (times (another_triple l.binary l.rows l.columns) (l.count - l.counter) triples l.words ≡ times (another_triple l.binary l.rows l.columns) l.count [] l.fn.words)
    × (cells : List ℤ)
    × AreHeld l.rows l.columns l.taken.items cells triples
    × (l.matrix ≡ record { rows = rows_of l.rows l.columns cells; width = l.columns })
