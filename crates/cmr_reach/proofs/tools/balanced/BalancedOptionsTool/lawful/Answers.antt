use Rattle.cmr_reach.specs.Balanced.{balanced_order_of}
use Rattle.cmr_reach.proofs.BalancedAnswers.{balanced_lawful}
use Rattle.cmr_reach.proofs.tools.balanced.BalancedOptionsTool.lawful.Goals as goal

pub returns : goal.returns
returns c = balanced_lawful (balanced_order_of c.args.self.now)
