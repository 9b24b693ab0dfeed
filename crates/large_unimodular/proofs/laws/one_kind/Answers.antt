use Rattle.large_unimodular.proofs.LargeMeaning.{one_kind}
use Rattle.large_unimodular.proofs.laws.one_kind.Goals as goal

pub returns : goal.returns
returns c = one_kind
