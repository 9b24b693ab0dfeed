use Rattle.ghouila.proofs.CamionLaw.{camion as equivalence, unsigned}
use Rattle.ghouila.proofs.laws.camion.Goals as goal

pub returns-clause-equivalence : goal.returns-clause-equivalence
returns-clause-equivalence c = λ m is. equivalence m is.small

pub returns-clause-unsigned : goal.returns-clause-unsigned
returns-clause-unsigned c = unsigned
