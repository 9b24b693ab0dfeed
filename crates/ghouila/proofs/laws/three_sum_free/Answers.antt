use Rattle.ghouila.proofs.ChildLines.{three_separations_decide, corners_decide}
use Rattle.ghouila.proofs.SumsOfMatrices.{three_sums_have_none}
use Rattle.ghouila.proofs.laws.three_sum_free.Goals as goal

pub returns-clause-separation : goal.returns-clause-separation
returns-clause-separation c = λ m rows columns side form first second is. three_separations_decide m rows columns side is.small form first second

pub returns-clause-sum : goal.returns-clause-sum
returns-clause-sum c = three_sums_have_none

pub returns-clause-corners : goal.returns-clause-corners
returns-clause-corners c = λ m first second is. corners_decide m first second is.small
