use Rattle.determinant_two.proofs.GomoryEquivalence.{gomory_equivalence}
use Rattle.determinant_two.proofs.ViolatorsHaveDeterminantTwo.{violators_have_determinant_two}
use Rattle.determinant_two.proofs.laws.gomory.Goals as goal

pub returns-clause-violators : goal.returns-clause-violators
returns-clause-violators c = violators_have_determinant_two

pub returns-clause-equivalence : goal.returns-clause-equivalence
returns-clause-equivalence c = gomory_equivalence
