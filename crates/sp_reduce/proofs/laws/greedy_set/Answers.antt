use Rattle.sp_reduce.proofs.Submatrices.{greedy_set as the_law}
use Rattle.sp_reduce.proofs.laws.greedy_set.Goals as goal

pub returns : goal.returns
returns c = the_law
