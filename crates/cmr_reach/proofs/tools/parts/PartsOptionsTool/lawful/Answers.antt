use Rattle.cmr_reach.specs.Parts.{parts_order_of}
use Rattle.cmr_reach.proofs.PartsAnswers.{parts_lawful}
use Rattle.cmr_reach.proofs.tools.parts.PartsOptionsTool.lawful.Goals as goal

pub returns : goal.returns
returns c = parts_lawful (parts_order_of c.args.self.now)
