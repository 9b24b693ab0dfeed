use Rattle.interval_matrices.proofs.AlternatingSigns.{intervals_are_unimodular}
use Rattle.interval_matrices.proofs.laws.interval_is_unimodular.Goals as goal

pub returns : goal.returns
returns c = intervals_are_unimodular
