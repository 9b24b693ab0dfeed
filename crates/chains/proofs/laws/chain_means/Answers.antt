use Rattle.chains.proofs.ChainViolators.{chains_mean_violators, chains_refute_regularity}
use Rattle.chains.proofs.laws.chain_means.Goals as goal

pub returns-clause-violators : goal.returns-clause-violators
returns-clause-violators c = chains_mean_violators

pub returns-clause-regular : goal.returns-clause-regular
returns-clause-regular c = chains_refute_regularity
