use Rattle.cmr_large.specs.LargeTu.{large_order_of}
use Rattle.cmr_large.proofs.LargeAnswers.{large_lawful}
use Rattle.cmr_large.proofs.tu.LargeOptionsTool.lawful.Goals as goal

pub returns : goal.returns
returns c = large_lawful (large_order_of c.args.self.now)
