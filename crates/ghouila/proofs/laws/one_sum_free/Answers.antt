use Rattle.ghouila.proofs.ConnectedParts.{components_decide, parts_decide}
use Rattle.ghouila.proofs.SumsOfMatrices.{one_sums_have_none}
use Rattle.ghouila.proofs.laws.one_sum_free.Goals as goal

pub returns-clause-components : goal.returns-clause-components
returns-clause-components c = components_decide

pub returns-clause-parts : goal.returns-clause-parts
returns-clause-parts c = parts_decide

pub returns-clause-sum : goal.returns-clause-sum
returns-clause-sum c = one_sums_have_none
