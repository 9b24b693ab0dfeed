use Rattle.reports_exist.proofs.DecidedMatrices as lemmas
use Rattle.reports_exist.proofs.laws.tu_decides.Goals as goal

pub returns-clause-within_budget : goal.returns-clause-within_budget
returns-clause-within_budget c = lemmas.decides_within_budget

pub returns-clause-networks : goal.returns-clause-networks
returns-clause-networks c = lemmas.accepts_networks

pub returns-clause-larger_budget : goal.returns-clause-larger_budget
returns-clause-larger_budget c = lemmas.keeps_answers

pub returns-clause-runs : goal.returns-clause-runs
returns-clause-runs c = lemmas.runs_decide
