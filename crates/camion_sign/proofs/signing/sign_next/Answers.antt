use Rattle.std.proofs.lemmas.Result.{on_ok_weaker}
use Rattle.camion_sign.proofs.signing.sign_next.Goals as goal

pub returns-in-None-clause-places : goal.returns-in-None-clause-places
returns-in-None-clause-places c = on_ok_weaker c.sign_free.result (λ keep. keep _ c.in_ok-forced.ensures.places) c.sign_free.ensures.places
