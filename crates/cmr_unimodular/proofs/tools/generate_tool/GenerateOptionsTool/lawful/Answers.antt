use Rattle.cmr_unimodular.specs.Generate.{generate_order_of}
use Rattle.cmr_unimodular.proofs.GenerateAnswers.{generate_lawful}
use Rattle.cmr_unimodular.proofs.tools.generate_tool.GenerateOptionsTool.lawful.Goals as goal

pub returns : goal.returns
returns c = generate_lawful (generate_order_of c.args.self.now)
