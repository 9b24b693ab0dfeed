use Rattle.frames.proofs.RequestLemmas as lemmas
use Rattle.frames.proofs.laws.one_request.Goals as goal

pub returns : goal.returns
returns c = lemmas.one_request
