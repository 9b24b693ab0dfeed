use Rattle.ghouila.proofs.RemovedLines.{reductions_keep_violators}
use Rattle.ghouila.proofs.laws.reduction_free.Goals as goal

pub returns : goal.returns
returns c = λ m rows columns line binary is. reductions_keep_violators m rows columns line binary is.small
