use Rattle.cmr_unimodular.proofs.OneSigning.{one_signing}
use Rattle.cmr_unimodular.proofs.tools.regular.steps_of.Goals as goal

pub returns-clause-same : goal.returns-clause-same
returns-clause-same c others signed is = (one_signing c.args.matrix.now _ signed _ others is.matrix c.in_ok-steps.ensures.signed is.by_camion).0
