use Rattle.sp_reduce.proofs.Submatrices.{any_order as the_law}
use Rattle.sp_reduce.proofs.laws.any_order.Goals as goal

pub returns : goal.returns
returns c = the_law
