use Rattle.sparse_matrix.specs.SparseRows.{value_in}
use Rattle.sparse_core.proofs.ThinLines.{two_left}
use Rattle.sparse_core.proofs.nonzeros.count_left.Goals as goal

pub returns-in-Some-other_left : goal.returns-in-Some-other_left
returns-in-Some-other_left c = two_left (value_in c.args.run.now) c.args.remains.now c.in-Some.first c.in-Some-other_left.field-0 c.in-Some.ensures c.in-Some-other_left.ensures
