use Rattle.frames.proofs.ReplyLemmas as lemmas
use Rattle.frames.proofs.laws.one_reply.Goals as goal

pub returns : goal.returns
returns c = lemmas.one_reply
