use Rattle.cmr_unimodular.specs.Tu.{tu_order_of}
use Rattle.cmr_unimodular.proofs.TuAnswers.{tu_lawful}
use Rattle.cmr_unimodular.proofs.tools.tu.TuOptionsTool.lawful.Goals as goal

pub returns : goal.returns
returns c = tu_lawful (tu_order_of c.args.self.now)
