use Rattle.cmr_unimodular.specs.Regular.{regular_order_of}
use Rattle.cmr_unimodular.proofs.RegularAnswers.{regular_lawful}
use Rattle.cmr_unimodular.proofs.tools.regular.RegularOptionsTool.lawful.Goals as goal

pub returns : goal.returns
returns c = regular_lawful (regular_order_of c.args.self.now)
