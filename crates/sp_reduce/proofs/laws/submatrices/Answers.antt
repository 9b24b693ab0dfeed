use Rattle.sp_reduce.proofs.Submatrices.{submatrices as the_law}
use Rattle.sp_reduce.proofs.laws.submatrices.Goals as goal

pub returns : goal.returns
returns c = the_law
