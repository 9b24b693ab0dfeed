use Rattle.sparse_text.proofs.LargerLimits.{one_dense_reading, one_sparse_reading}
use Rattle.sparse_text.proofs.laws.within_limits.Goals as goal

pub returns-clause-dense : goal.returns-clause-dense
returns-clause-dense c = one_dense_reading

pub returns-clause-sparse : goal.returns-clause-sparse
returns-clause-sparse c = one_sparse_reading
