use Rattle.large_evidence.proofs.AcceptedEvidence.{accepted_is_proved}
use Rattle.large_evidence.proofs.laws.accepted_is_unimodular.Goals as goal

pub returns : goal.returns
returns c = accepted_is_proved
