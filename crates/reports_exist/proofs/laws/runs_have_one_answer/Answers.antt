use Rattle.reports_exist.proofs.AnsweredRuns as lemmas
use Rattle.reports_exist.proofs.laws.runs_have_one_answer.Goals as goal

pub returns : goal.returns
returns c = lemmas.runs_have_one_answer
