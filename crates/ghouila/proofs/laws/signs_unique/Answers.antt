use Rattle.ghouila.proofs.SignsUnique.{signs_are_unique, fault_free_has_no_violator}
use Rattle.ghouila.proofs.laws.signs_unique.Goals as goal

pub returns-clause-agree : goal.returns-clause-agree
returns-clause-agree c = λ m n is_m is_n. signs_are_unique m n is_m.rectangular is_n.rectangular is_m.small is_n.small

pub returns-clause-free : goal.returns-clause-free
returns-clause-free c = λ m n is_m is_n. fault_free_has_no_violator m n is_m.rectangular is_n.rectangular is_m.small is_n.small
