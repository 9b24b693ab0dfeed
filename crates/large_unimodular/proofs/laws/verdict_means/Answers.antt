use Rattle.large_unimodular.proofs.LargeMeaning.{verdicts_mean}
use Rattle.large_unimodular.proofs.laws.verdict_means.Goals as goal

pub returns : goal.returns
returns c = verdicts_mean
