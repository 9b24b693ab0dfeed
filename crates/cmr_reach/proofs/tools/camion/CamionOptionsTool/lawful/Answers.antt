use Rattle.cmr_reach.specs.Camion.{camion_order_of}
use Rattle.cmr_reach.proofs.CamionAnswers.{camion_lawful}
use Rattle.cmr_reach.proofs.tools.camion.CamionOptionsTool.lawful.Goals as goal

pub returns : goal.returns
returns c = camion_lawful (camion_order_of c.args.self.now)
