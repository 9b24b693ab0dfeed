use Rattle.balance.proofs.FaultLaws.{free_is_balanced, cycle_fault_unbalanced}
use Rattle.balance.proofs.laws.free_balanced.Goals as goal

pub returns-clause-free : goal.returns-clause-free
returns-clause-free c = free_is_balanced

pub returns-clause-cycles : goal.returns-clause-cycles
returns-clause-cycles c = cycle_fault_unbalanced
