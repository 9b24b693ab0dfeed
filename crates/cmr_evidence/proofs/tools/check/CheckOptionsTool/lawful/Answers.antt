use Rattle.cmr_evidence.specs.Check.{check_order_of}
use Rattle.cmr_evidence.proofs.CheckAnswers.{check_lawful}
use Rattle.cmr_evidence.proofs.tools.check.CheckOptionsTool.lawful.Goals as goal

pub returns : goal.returns
returns c = check_lawful (check_order_of c.args.self.now)
