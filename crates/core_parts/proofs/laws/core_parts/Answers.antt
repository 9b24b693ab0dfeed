use Rattle.core_parts.proofs.CoreLines.{core_parts_decide}
use Rattle.core_parts.proofs.OneListOfParts.{one_list_of_parts}
use Rattle.core_parts.proofs.laws.core_parts.Goals as goal

pub returns-clause-one : goal.returns-clause-one
returns-clause-one c = one_list_of_parts

pub returns-clause-decide : goal.returns-clause-decide
returns-clause-decide c = core_parts_decide
