use Rattle.cmr_reach.specs.Compose.{compose_order_of}
use Rattle.cmr_reach.proofs.ComposeAnswers.{compose_lawful}
use Rattle.cmr_reach.proofs.tools.compose_tool.ComposeOptionsTool.lawful.Goals as goal

pub returns : goal.returns
returns c = compose_lawful (compose_order_of c.args.self.now)
