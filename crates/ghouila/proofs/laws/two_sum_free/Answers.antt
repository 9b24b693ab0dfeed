use Rattle.ghouila.proofs.ChildLines.{two_separations_decide}
use Rattle.ghouila.proofs.SumsOfMatrices.{two_sums_have_none}
use Rattle.ghouila.proofs.laws.two_sum_free.Goals as goal

pub returns-clause-separation : goal.returns-clause-separation
returns-clause-separation c = λ m rows columns side i j is. two_separations_decide m rows columns side i j is.small

pub returns-clause-sum : goal.returns-clause-sum
returns-clause-sum c = two_sums_have_none
