use Rattle.std.proofs.Common.{[]}
use Rattle.std.proofs.lemmas.Result.{IfOk-weaker}
use Rattle.cmr_front.proofs.AddedArguments.{adds_rules}
use Rattle.cmr_front.proofs.words.arguments.tool_command.Goals as goal

pub returns : goal.returns
returns c = IfOk-weaker c.args-2.result _ _ (λ command adds. adds_rules c.args.name.now [] c.bare_command.result c.args.args.items command c.requires adds c.bare_command.ensures) c.args-2.ensures
