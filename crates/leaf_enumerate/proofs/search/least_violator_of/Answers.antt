use Rattle.leaf_enumerate.proofs.LeastViolators.{searched}
use Rattle.leaf_enumerate.proofs.search.least_violator_of.Goals as goal

pub returns : goal.returns
returns g c = searched c.args.matrix.now c.rows-rows.ensures.shape c.args.budget c.least_submatrix.result c.least_submatrix.ensures
