use Rattle.r10_leaf.proofs.FreeR10.{fault_free_r10_has_no_violator}
use Rattle.r10_leaf.proofs.laws.r10_free.Goals as goal

pub returns : goal.returns
returns c = λ m is. fault_free_r10_has_no_violator m is.rectangular is.small
