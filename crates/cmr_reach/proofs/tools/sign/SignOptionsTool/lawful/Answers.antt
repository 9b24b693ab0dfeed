use Rattle.cmr_reach.specs.Sign.{sign_order_of}
use Rattle.cmr_reach.proofs.SignAnswers.{sign_lawful}
use Rattle.cmr_reach.proofs.tools.sign.SignOptionsTool.lawful.Goals as goal

pub returns : goal.returns
returns c = sign_lawful (sign_order_of c.args.self.now)
