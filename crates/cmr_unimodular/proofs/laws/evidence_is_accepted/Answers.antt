use Rattle.cmr_unimodular.proofs.AcceptedEvidence as evidence
use Rattle.cmr_unimodular.proofs.laws.evidence_is_accepted.Goals as goal

pub returns-clause-tests : goal.returns-clause-tests
returns-clause-tests c = evidence.tests_are_accepted

pub returns-clause-signings : goal.returns-clause-signings
returns-clause-signings c = evidence.signings_are_accepted
